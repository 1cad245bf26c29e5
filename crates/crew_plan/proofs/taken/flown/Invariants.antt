use Rattle.std.proofs.Common.{◌≡◌, ◌<◌, take}
use Rattle.crew_resource.specs.Members.{Each}
use Rattle.crew_fronts.specs.crew_solve.Apart.{flown}
use Rattle.crew_plan.proofs.taken.flown.Given as goal

abbrev pub invariant-loop-key : goal.invariant-loop-key
invariant-loop-key l =
    (l.flights.items ≡ flown (take l.key-index l.keys))
    × Each (λ flight. flight < 1_000_000) l.flights.items
