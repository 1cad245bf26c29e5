use Rattle.std.proofs.Common.{◌≡◌, length}
use Rattle.crew_dirty.proofs.Sames.{AreHeldTo}
use Rattle.crew_dirty.proofs.same.held_duties.Given as goal

-- the twins of the old ranks so far have their flags
abbrev pub invariant-loop-old : goal.invariant-loop-old
invariant-loop-old l = (length l.flags.items ≡ length l.news) × AreHeldTo l.olds l.news l.old l.flags.items
