use Rattle.std.proofs.Common.{◌≡◌, ◌++◌, ◌<◌, take}
use Rattle.std.specs.List.{flat_map}
use Rattle.crew_resource.specs.Members.{Each}
use Rattle.crew_fronts.specs.crew_solve.Apart.{flown_on}
use Rattle.crew_plan.proofs.taken.push_key.Given as goal

abbrev pub invariant-loop-leg : goal.invariant-loop-leg
invariant-loop-leg l =
    (l.flights.items ≡ l.initial.flights.items ++ flat_map flown_on (take l.leg-index l.legs))
    × (Each (λ flight. flight < 1_000_000) l.initial.flights.items → Each (λ flight. flight < 1_000_000) l.flights.items)
