use Rattle.std.proofs.Common.{◌≡◌, ◌++◌, List, map}
use Rattle.crew_fronts.specs.crew_answers.LongVectors.{LongVector}
use Rattle.crew_pairing.specs.Legs.{Leg}
use Rattle.crew_plan.specs.Machinery.Homes.{pairing_of}
use Rattle.crew_fronts.specs.crew_solve.Machinery.Keeps.{keep_all}
use Rattle.crew_plan.proofs.homes.keep_of_front.Given as goal

abbrev pub invariant-loop-vector : goal.invariant-loop-vector
invariant-loop-vector l =
    (done : List (LongVector × List (List Leg))) × (done ++ l.vector-iterator ≡ l.initial.vector-iterator)
    × (l.kept ≡ keep_all l.initial.kept (map (pairing_of l.trip_rig l.code) done))
