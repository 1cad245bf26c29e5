use Rattle.std.proofs.Common.{◌≡◌}
use Rattle.std.specs.List.{flat_map, range_with_len}
use Rattle.crew_solve.specs.Machinery.Floors.{AreFloors, AreMarks}
use Rattle.crew_solve.specs.Machinery.Homes.{home_from}
use Rattle.crew_solve.specs.Machinery.Keeps.{keep_all}
use Rattle.crew_solve.proofs.floors.keep_of_base.Given as goal

abbrev pub invariant-loop-index : goal.invariant-loop-index
invariant-loop-index l = record {
  kept : l.kept ≡ keep_all l.initial.kept (flat_map (home_from l.sweep) (range_with_len 0 l.index));
  floors : AreFloors l.initial.kept.beside l.sweep l.floors;
  marks : AreMarks l.initial.kept.beside l.sweep l.marks;
}
