use Rattle.std.proofs.Common.{◌≡◌}
use Rattle.crew_fronts.specs.crew_solve.Machinery.Takes.{offered_each}
use Rattle.crew_plan.proofs.taken.Taken.offer_each.Given as goal

abbrev pub invariant-loop-pairing : goal.invariant-loop-pairing
invariant-loop-pairing l = l.self ≡ offered_each l.initial.self l.yielded
