use Rattle.std.proofs.Common.{◌≡◌, take}
use Rattle.std.specs.List.{flat_map}
use Rattle.crew_plan.specs.Machinery.Homes.{home_at}
use Rattle.crew_fronts.specs.crew_solve.Machinery.Keeps.{keep_all}
use Rattle.crew_plan.proofs.homes.keep_of_base.Given as goal

abbrev pub invariant-loop-rank : goal.invariant-loop-rank
invariant-loop-rank l = l.kept ≡ keep_all l.initial.kept (flat_map (home_at l.trip_rig l.base) (take l.rank l.base.net.duties))
