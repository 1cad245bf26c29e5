use Rattle.std.proofs.Common.{◌⊎◌, Some}
use Rattle.crew_resource.specs.Members.{Member}
use Rattle.crew_sweep.specs.declared.windows.Waiting.{Waiting}
use Rattle.crew_sweep.proofs.lanes.put_lane.Given as goal

-- what is put is of the lane, and so is what is left
abbrev pub invariant-loop-it : goal.invariant-loop-it
invariant-loop-it l =
    ((w : Waiting) → Member l.ahead.items (Some w) → Member l.fn.ahead.items (Some w) ⊎ Member l.fn.lane.waiting.items w)
    × ((w : Waiting) → Member l.it-iterator.rest.items w → Member l.fn.lane.waiting.items w)
