use Rattle.std.proofs.Common.{take}
use Rattle.crew_solve.specs.Machinery.Floors.{AreMarks, IsFloor}
use Rattle.crew_solve.proofs.best.floor_of.Given as goal

abbrev pub invariant-loop-label : goal.invariant-loop-label
invariant-loop-label l = record {
  floor : IsFloor l.kept.beside l.sweep l.floor (take l.label-index l.labels);
  marks : AreMarks l.kept.beside l.sweep l.marks;
}
