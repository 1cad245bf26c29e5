use Rattle.std.proofs.Common.{◌≡◌, length}
use Rattle.crew_dirty.proofs.Passed.{IsPassed}
use Rattle.crew_dirty.specs.Carried.{AreFlags}
use Rattle.crew_dirty.specs.Dirty.{IsSameDuty}
use Rattle.crew_net.specs.Nets.{Net}
use Rattle.crew_dirty.proofs.reach.unreached_duties.Given as goal

-- the departures so far are passed
abbrev pub invariant-loop-departure : goal.invariant-loop-departure
invariant-loop-departure l =
    (length l.unreached.items ≡ length l.net.duties)
    × (length l.marks.items ≡ length l.net.arrivals)
    × ((old : Net) → AreFlags (IsSameDuty old l.net) l.net.duties l.flags → IsPassed old l.net l.departure-index l.unreached.items l.marks.items)
