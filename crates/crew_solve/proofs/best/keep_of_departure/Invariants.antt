use Rattle.std.proofs.Common.{◌≡◌, take}
use Rattle.std.specs.List.{flat_map}
use Rattle.crew_solve.specs.Machinery.Floors.{CostFrom}
use Rattle.crew_solve.specs.Machinery.Homes.{home_at}
use Rattle.crew_solve.specs.Machinery.Keeps.{keep_all}
use Rattle.crew_solve.proofs.best.keep_of_departure.Given as goal

abbrev pub invariant-loop-rank : goal.invariant-loop-rank
invariant-loop-rank l = record {
  kept : l.kept ≡ keep_all l.initial.kept (flat_map (home_at l.sweep l.index) (take l.rank-index l.ranks));
  floor : CostFrom l.initial.kept.beside l.least (flat_map (home_at l.sweep l.index) (take l.rank-index l.ranks));
}
