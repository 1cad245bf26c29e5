use Rattle.std.proofs.Common.{◌≡◌, ◌++◌, List, ℕ}
use Rattle.std.specs.Io.KnownBytes.{Appends}
use Rattle.std.specs.List.{flat_map}
use Rattle.crew_session.specs.Lines.{entry_line}
use Rattle.crew_session.proofs.front.write_entries.Given as goal

abbrev pub invariant-loop-vector : goal.invariant-loop-vector
invariant-loop-vector g l =
    (done : List ℕ) × Appends (g.W.Write.contents l.fn.writer) (g.W.Write.contents l.writer) done
    × (done ++ flat_map (entry_line l.settings) l.vector-iterator ≡ flat_map (entry_line l.settings) l.front)
