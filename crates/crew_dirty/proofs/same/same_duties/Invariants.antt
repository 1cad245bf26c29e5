use Rattle.std.proofs.Common.{◌≡◌, length}
use Rattle.crew_dirty.proofs.Sames.{AreSameTo}
use Rattle.crew_dirty.proofs.same.same_duties.Given as goal

-- the duties of the departures so far have their flags
abbrev pub invariant-loop-departure : goal.invariant-loop-departure
invariant-loop-departure l = (length l.same.items ≡ length l.new.duties) × AreSameTo l.fn.old l.new l.departure l.same.items
