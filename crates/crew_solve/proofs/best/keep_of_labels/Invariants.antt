use Rattle.std.proofs.Common.{◌≡◌, map}
use Rattle.crew_solve.specs.Machinery.Floors.{CostFrom}
use Rattle.crew_solve.specs.Machinery.Homes.{pairing_at}
use Rattle.crew_solve.specs.Machinery.Keeps.{keep_all}
use Rattle.crew_solve.proofs.best.keep_of_labels.Given as goal

abbrev pub invariant-loop-label : goal.invariant-loop-label
invariant-loop-label l = record {
  kept : l.kept ≡ keep_all l.initial.kept (map (pairing_at l.sweep l.duty.release) l.yielded);
  floor : CostFrom l.initial.kept.beside l.floor (map (pairing_at l.sweep l.duty.release) l.yielded);
}
