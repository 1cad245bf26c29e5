-- A list is a history in at most one way; and periods in an array of fixed size.
use Rattle.std.specs.Prelude.{◌≡◌, ℕ, ◌-◌, ◌≤◌, ◌<ℤ◌, length, take, drop, replicate, List, [], ◌∷◌, ℤ, pos}
use Rattle.std.specs.Coded.{Coded-set, coded_list, coded×, coded_ℤ, coded_ℕ, le_prop}
use Rattle.std.proofs.Math.Dec.{T_prop}
use Rattle.crew_history.specs.Histories.{IsAfter, IsHistory}

lt_prop : (a b : ℤ) → IsProp (a <ℤ b)
lt_prop a b = hlevel T_prop

after_prop : (t : ℤ) (h : List (ℤ × ℤ)) → IsProp (IsAfter t h)
after_prop t [] = hlevel
after_prop t (p ∷ h) = hlevel (lt_prop, after_prop p.1 h)

pub history_prop : (h : List (ℤ × ℤ)) → IsProp (IsHistory h)
history_prop [] = hlevel
history_prop (p ∷ h) = hlevel (lt_prop, after_prop p.1 h)

-- the first so many of twelve periods are a history, and the others are zero
abbrev pub IsKept : ℕ → List (ℤ × ℤ) → Type 0
IsKept n periods = (n ≤ 12) × (length periods ≡ 12) × IsHistory (take n periods)
    × (drop n periods ≡ replicate (12 - n) (pos 0, pos 0))

pub kept_prop : (n : ℕ) (periods : List (ℤ × ℤ)) → IsProp (IsKept n periods)
kept_prop n periods = hlevel (
  le_prop,
  history_prop,
  Coded-set coded_ℕ,
  Coded-set (coded_list (coded× coded_ℤ coded_ℤ)),
)
