use Rattle.std.proofs.Common.{◌≡◌, length}
use Rattle.crew_ready.specs.Counts.{AreBlockedUpTo}
use Rattle.crew_ready.proofs.counts.blocked_by_departure.Given as goal

-- the departures so far have their counts
abbrev pub invariant-loop-departure : goal.invariant-loop-departure
invariant-loop-departure l = (length l.counts.items ≡ length l.net.departures) × AreBlockedUpTo l.net l.undone l.departure l.counts.items
