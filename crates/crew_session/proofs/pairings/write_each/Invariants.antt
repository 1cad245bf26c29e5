use Rattle.std.proofs.Common.{◌≡◌, ◌++◌, drop, List, ℕ}
use Rattle.std.specs.Io.KnownBytes.{Appends}
use Rattle.std.specs.List.{flat_map}
use Rattle.std.specs.Prelude.{codes}
use Rattle.crew_session.specs.Lines.{pairing_line}
use Rattle.crew_session.proofs.pairings.write_each.Given as goal

abbrev pub invariant-loop-pairing : goal.invariant-loop-pairing
invariant-loop-pairing g l =
    (done : List ℕ) × Appends (g.W.Write.contents l.fn.writer) (g.W.Write.contents l.writer) done
    × (done ++ flat_map (pairing_line (codes "pairing")) (drop l.pairing-index l.pairings) ≡ flat_map (pairing_line (codes "pairing")) l.pairings)
