-- Resources of which nothing is ever forgotten.
use Rattle.std.specs.Prelude.{◌≡◌, Bool, true, false}

-- the stages shift values, a value's sums are all of it, a wait leaves it as it is, and nothing of it
-- lapses
pub record IsPlain {V X G N : Type 0} (le same : V → V → Bool) (wait : V → X → G → V)
    (lapses : V → N → Bool) (Shifts : Type 0) : Type 0 where
  pub shifts : Shifts
  pub sums_alone : (a b : V) → le a b ≡ true → same a b ≡ true → a ≡ b
  pub still : (v : V) (x : X) (g : G) → wait v x g ≡ v
  pub stays : (v : V) (d : N) → lapses v d ≡ false
