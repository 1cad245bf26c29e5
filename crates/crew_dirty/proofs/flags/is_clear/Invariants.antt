use Rattle.std.proofs.Common.{◌≡◌, ◌≤◌, ◌<◌, ℕ, false, get_or}
use Rattle.crew_dirty.proofs.flags.is_clear.Given as goal

-- the places so far have no mark
abbrev pub invariant-loop-place : goal.invariant-loop-place
invariant-loop-place l = (k : ℕ) → l.fn.window.from ≤ k → k < l.place → get_or l.marks k false ≡ false
