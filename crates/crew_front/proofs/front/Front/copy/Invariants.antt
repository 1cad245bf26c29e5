use Rattle.std.proofs.Common.{◌≡◌, take}
use Rattle.crew_front.proofs.front.Front.copy.Given as goal

abbrev pub invariant-loop-entry : goal.invariant-loop-entry
invariant-loop-entry g l = l.entries.items ≡ take l.entry-index l.entry-items
