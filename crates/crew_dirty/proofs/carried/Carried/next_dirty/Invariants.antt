use Rattle.std.proofs.Common.{◌≡◌, ◌≤◌, ◌<◌, ◌/◌, ◌%◌, ◌&&◌, ℕ, true, false, get_or}
use Rattle.crew_dirty.proofs.carried.Carried.next_dirty.Given as goal

-- the places so far are kept
abbrev pub invariant-loop-place : goal.invariant-loop-place
invariant-loop-place l =
    (k : ℕ) → l.fn.from ≤ k → k < l.place → (get_or l.self.bases (k / l.count) false && get_or l.self.unreached (k % l.count) false) ≡ true
