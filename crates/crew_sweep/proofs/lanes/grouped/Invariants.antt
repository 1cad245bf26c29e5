use Rattle.std.specs.Global.{Global}
use Rattle.std.specs.Prelude.{Vec}
use Rattle.crew_resource.specs.Members.{Member}
use Rattle.crew_sweep.specs.declared.lanes.Lane.{Lane}
use Rattle.crew_sweep.proofs.lanes.grouped.Given as goal

-- what is in groups, in the group under way and what is left are lanes of the list
abbrev pub invariant-loop-lane : goal.invariant-loop-lane
invariant-loop-lane l =
    ((group : Vec Lane Global) → Member l.groups.items group → (lane : Lane) → Member group.items lane → Member l.fn.lanes.items lane)
    × ((lane : Lane) → Member l.group.items lane → Member l.fn.lanes.items lane)
    × ((lane : Lane) → Member l.lane-iterator.rest.items lane → Member l.fn.lanes.items lane)

abbrev pub invariant-loop : goal.invariant-loop
invariant-loop l = (group : Vec Lane Global) → Member l.groups.items group → (lane : Lane) → Member group.items lane → Member l.fn.lanes.items lane
