use Rattle.std.proofs.Common.{◌≡◌, length}
use Rattle.crew_fronts.proofs.front_view.are_same_entries.Given as goal

-- what is left is the same where all was
abbrev pub invariant-loop-entry : goal.invariant-loop-entry
invariant-loop-entry l = (l.fn.one ≡ l.fn.other → l.one ≡ l.other) × (l.one ≡ l.other → l.fn.one ≡ l.fn.other)

abbrev pub decreases-loop-entry : goal.decreases-loop-entry
decreases-loop-entry l = length l.one
