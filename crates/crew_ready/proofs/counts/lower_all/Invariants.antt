use Rattle.std.proofs.Common.{◌≡◌, ◌≤◌, ◌<◌, ◌-◌, ◌⊎◌, ℕ, get_or, length}
use Rattle.crew_ready.proofs.counts.lower_all.Given as goal

-- the places so far have one less, and no others
abbrev pub invariant-loop-place : goal.invariant-loop-place
invariant-loop-place l =
    (length l.counts ≡ length l.fn.counts)
    × ((k : ℕ) → l.fn.window.from ≤ k → k < l.place → get_or l.counts k 0 ≡ get_or l.fn.counts k 0 - 1)
    × ((k : ℕ) → (k < l.fn.window.from) ⊎ (l.place ≤ k) → get_or l.counts k 0 ≡ get_or l.fn.counts k 0)
