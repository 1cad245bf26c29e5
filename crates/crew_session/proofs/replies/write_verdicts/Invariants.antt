use Rattle.std.proofs.Common.{◌≡◌, ◌++◌, drop, List, ℕ}
use Rattle.std.specs.Io.KnownBytes.{Appends}
use Rattle.crew_session.specs.ReplyLines.{place_lines}
use Rattle.crew_version.specs.Versions.{verdicts_of}
use Rattle.crew_session.proofs.replies.write_verdicts.Given as goal

abbrev pub invariant-loop-place : goal.invariant-loop-place
invariant-loop-place g l =
    (done : List ℕ) × Appends (g.W.Write.contents l.fn.writer) (g.W.Write.contents l.writer) done
    × (done ++ place_lines l.place (drop l.place (verdicts_of l.version.entries)) ≡ place_lines l.first (drop l.first (verdicts_of l.version.entries)))
