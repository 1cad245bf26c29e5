use Rattle.std.proofs.Common.{◌≡◌, ◌≤◌, ◌<◌, ◌-◌, ℕ, true, false, get_or, length}
use Rattle.std.specs.Ordering.{is_lt}
use Rattle.crew_pairing.specs.Keys.{key_cmp}
use Rattle.crew_pairing.specs.declared.duty.Duty.{Duty}
use Rattle.crew_net.proofs.ranks.key_start.Given as goal

abbrev pub decreases-loop-low : goal.decreases-loop-low
decreases-loop-low l = l.high - l.low

-- lesser keys stand before one place, and none from another on
abbrev pub invariant-loop-low : goal.invariant-loop-low
invariant-loop-low l =
    (l.low ≤ l.high) × (l.high ≤ length l.duties)
    × ((k : ℕ) (d : Duty) → k < l.low → is_lt (key_cmp (get_or l.duties k d).key l.key) ≡ true)
    × ((k : ℕ) (d : Duty) → l.high ≤ k → k < length l.duties → is_lt (key_cmp (get_or l.duties k d).key l.key) ≡ false)
