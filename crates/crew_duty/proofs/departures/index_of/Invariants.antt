use Rattle.std.proofs.Common.{◌≡◌, take}
use Rattle.crew_resource.specs.Members.{Each}
use Rattle.crew_duty.specs.Machinery.Slots.{IsNamed, slots_from}
use Rattle.crew_duty.proofs.departures.index_of.Given as goal

abbrev pub invariant-loop-place : goal.invariant-loop-place
invariant-loop-place l = (l.slots.items ≡ slots_from 0 (take l.place l.flights)) × Each IsNamed (take l.place l.flights)
