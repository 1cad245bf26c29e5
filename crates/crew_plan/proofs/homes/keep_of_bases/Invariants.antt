use Rattle.std.proofs.Common.{◌≡◌, map, take}
use Rattle.std.specs.Arc.{arc_value}
use Rattle.std.specs.List.{flat_map}
use Rattle.crew_plan.specs.Machinery.Homes.{home_of}
use Rattle.crew_fronts.specs.crew_solve.Machinery.Keeps.{keep_all}
use Rattle.crew_plan.proofs.homes.keep_of_bases.Given as goal

abbrev pub invariant-loop-base : goal.invariant-loop-base
invariant-loop-base l = l.kept ≡ keep_all l.initial.kept (flat_map (home_of l.trip_rig) (map arc_value (take l.base-index l.bases)))
