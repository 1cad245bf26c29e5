use Rattle.std.proofs.Common.{◌≡◌, map, take}
use Rattle.crew_net.specs.Machinery.Held.{IsLeft, IsReached, arrive_at, leave_at}
use Rattle.crew_net.specs.Machinery.Moments.{keyed_slot, slots_from}
use Rattle.crew_resource.specs.Members.{Each}
use Rattle.crew_net.proofs.events.event_keys.Given as goal

abbrev pub invariant-loop-rank : goal.invariant-loop-rank
invariant-loop-rank l =
    (map keyed_slot l.leave.items ≡ slots_from 0 (map leave_at (take l.rank l.duties)))
    × (map keyed_slot l.arrive.items ≡ slots_from 0 (map arrive_at (take l.rank l.duties)))
    × Each IsLeft (take l.rank l.duties) × Each IsReached (take l.rank l.duties)
