use Rattle.std.proofs.Common.{◌≡◌, length}
use Rattle.crew_ready.specs.Counts.{AreUndoneUpTo}
use Rattle.crew_ready.proofs.counts.undone_by_arrival.Given as goal

-- the arrivals so far have their counts
abbrev pub invariant-loop-arrival : goal.invariant-loop-arrival
invariant-loop-arrival l = (length l.counts.items ≡ length l.net.arrivals) × AreUndoneUpTo l.net l.done l.arrival l.counts.items
