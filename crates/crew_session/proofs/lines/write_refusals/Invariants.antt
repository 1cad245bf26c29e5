use Rattle.std.proofs.Common.{◌≡◌, ◌++◌, ◌+◌, drop, List, ℕ}
use Rattle.crew_session.specs.Lines.{refused_lines}
use Rattle.crew_version.specs.Versions.{verdicts_of}
use Rattle.std.specs.Io.KnownBytes.{Appends}
use Rattle.crew_session.proofs.lines.write_refusals.Given as goal

abbrev pub invariant-loop-i : goal.invariant-loop-i
invariant-loop-i g l =
    (done : List ℕ) × Appends (g.W.Write.contents l.fn.writer) (g.W.Write.contents l.writer) done
    × (done ++ refused_lines (drop l.i l.numbers) (drop (l.first + l.i) (verdicts_of l.version.entries)) ≡ refused_lines l.numbers (drop l.first (verdicts_of l.version.entries)))
