-- What the laws let any code over a resource conclude.
use Rattle.std.specs.Prelude.{◌≡◌, ℕ, suc, Bool, true, Option, Some}

-- where the second has a value the first has one too, at most that
abbrev pub IsNoWorse : {V : Type 0} → (V → V → Bool) → Option V → Option V → Type 0
IsNoWorse {V} below a b = (c : V) → b ≡ Some c → (x : V) × (a ≡ Some x) × (below x c ≡ true)

-- the value lies within the bound for some number of items, and sums over one more fit
abbrev pub HasRoom : {V : Type 0} → (ℕ → Type 0) → (ℕ → V → Type 0) → V → Type 0
HasRoom fits arrived value = (n : ℕ) × fits (suc n) × arrived n value

-- if there is a value, it lies within the bound for one item more than the one before
abbrev pub KeepsBound : {V : Type 0} → (ℕ → V → Type 0) → V → Option V → Type 0
KeepsBound {V} arrived value longer = (n : ℕ) (z : V) → arrived n value → longer ≡ Some z
    → arrived (suc n) z
