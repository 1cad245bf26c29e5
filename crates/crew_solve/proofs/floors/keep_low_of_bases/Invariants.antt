use Rattle.std.proofs.Common.{map}
use Rattle.std.specs.Arc.{arc_value}
use Rattle.std.specs.List.{flat_map}
use Rattle.crew_solve.specs.Machinery.Floors.{AreKnown}
use Rattle.crew_solve.specs.Machinery.Homes.{home_of}
use Rattle.crew_solve.specs.Machinery.Keeps.{KeepsSome}
use Rattle.crew_solve.proofs.floors.keep_low_of_bases.Given as goal

abbrev pub invariant-loop-place : goal.invariant-loop-place
invariant-loop-place l = record {
  kept : KeepsSome (flat_map home_of (map arc_value l.fronts)) l.initial.kept l.kept;
  known : AreKnown l.initial.kept.beside (map arc_value l.fronts) l.known;
}
