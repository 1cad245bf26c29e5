use Rattle.crew_solve.specs.Machinery.Floors.{AreFloors, AreMarks}
use Rattle.crew_solve.specs.Machinery.Homes.{home_of}
use Rattle.crew_solve.specs.Machinery.Keeps.{KeepsSome}
use Rattle.crew_solve.proofs.floors.keep_low_of_base.Given as goal

abbrev pub invariant-loop-index : goal.invariant-loop-index
invariant-loop-index l = record {
  kept : KeepsSome (home_of l.sweep) l.initial.kept l.kept;
  floors : AreFloors l.initial.kept.beside l.sweep l.floors;
  marks : AreMarks l.initial.kept.beside l.sweep l.marks;
}
