-- Where the stages forget: two values stand to each other as they did after a wait that isn't a
-- rest; after a rest, as they do rested; and a value of which nothing lapses as it boards comes to be
-- at most no other than before.
use Rattle.std.specs.Prelude.{◌≡◌, ℕ, ℤ, Bool, true, false, Option, Some}
use Rattle.std.specs.declared.cmp.Ordering.{Ordering}
use Rattle.std.specs.declared.cmp.Ordering.TheVariants.{Less}

-- values with the same sums stand together in the listing, and the stages keep which do
pub record TogetherLaws {N V G X : Type 0} (cmp : V → V → Ordering) (same : V → V → Bool)
    (wait : V → X → G → V) (board : V → N → Option V) : Type 0 where
  pub same_other : (a b c : V) → same a b ≡ true → same a c ≡ true → same b c ≡ true
  pub together : (a b c : V) → cmp a b ≡ Less → cmp b c ≡ Less → same a c ≡ true
      → same a b ≡ true
  pub wait_same : (a b : V) (x : X) (g : G) → same (wait a x g) (wait b x g) ≡ same a b
  pub board_same : (a b y z : V) (d : N) → board a d ≡ Some y → board b d ≡ Some z
      → same y z ≡ same a b
  pub board_rises : (a b y z : V) (d : N) → board a d ≡ Some y → board b d ≡ Some z
      → cmp a b ≡ Less → same a b ≡ false → cmp y z ≡ Less

-- a wait that isn't a rest reflects the order and keeps the listing
pub record WaitLaws {V G X : Type 0} (cmp : V → V → Ordering) (le : V → V → Bool)
    (wait : V → X → G → V) (rests : X → G → Bool) : Type 0 where
  pub wait_reflects : (a b : V) (x : X) (g : G) → rests x g ≡ false
      → le (wait a x g) (wait b x g) ≡ true → le a b ≡ true
  pub wait_rises : (a b : V) (x : X) (g : G) → rests x g ≡ false → cmp a b ≡ Less
      → cmp (wait a x g) (wait b x g) ≡ Less

-- a rest does so of rested values, and leaves of each value what it leaves of the rested one
pub record RestLaws {V G X : Type 0} (cmp : V → V → Ordering) (le : V → V → Bool)
    (wait : V → X → G → V) (rests : X → G → Bool) (rested : V → V) (count : V → ℤ)
    (arrived : ℕ → V → Type 0) : Type 0 where
  pub rest_is : (a : V) (x : X) (g : G) → rests x g ≡ true → wait (rested a) x g ≡ wait a x g
  pub rest_reflects : (a b : V) (x : X) (g : G) → rests x g ≡ true
      → le (wait a x g) (wait b x g) ≡ true → le (rested a) (rested b) ≡ true
  pub rest_rises : (a b : V) (x : X) (g : G) → rests x g ≡ true
      → cmp (rested a) (rested b) ≡ Less → cmp (wait a x g) (wait b x g) ≡ Less
  pub rested_counts : (a : V) → count (rested a) ≡ count a
  pub rested_arrived : (n : ℕ) (a : V) → arrived n a → arrived n (rested a)

-- of a value of which nothing lapses boarding reflects that it is at most another
pub record BoardLaws {N V : Type 0} (le : V → V → Bool) (board : V → N → Option V)
    (lapses : V → N → Bool) : Type 0 where
  pub board_reflects : (a b y z : V) (d : N) → lapses a d ≡ false → board a d ≡ Some y
      → board b d ≡ Some z → le y z ≡ true → le a b ≡ true
