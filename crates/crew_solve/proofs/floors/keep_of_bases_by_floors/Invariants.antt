use Rattle.std.proofs.Common.{◌≡◌, map, take}
use Rattle.std.specs.Arc.{arc_value}
use Rattle.std.specs.List.{flat_map}
use Rattle.crew_solve.specs.Machinery.Floors.{AreKnown}
use Rattle.crew_solve.specs.Machinery.Homes.{home_of}
use Rattle.crew_solve.specs.Machinery.Keeps.{keep_all}
use Rattle.crew_solve.proofs.floors.keep_of_bases_by_floors.Given as goal

abbrev pub invariant-loop-place : goal.invariant-loop-place
invariant-loop-place l = record {
  kept : l.kept ≡ keep_all l.initial.kept (flat_map home_of (map arc_value (take l.place l.fronts)));
  known : AreKnown l.initial.kept.beside (map arc_value l.fronts) l.known;
}
