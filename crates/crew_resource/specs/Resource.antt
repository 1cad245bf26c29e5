-- The laws of a resource: what dominance among labels rests on (Irnich and Desaulniers, "Shortest
-- Path Problems with Resource Constraints", 2005: resource extension functions that do not fall,
-- and the dominance that they allow).
use Rattle.std.specs.Prelude.{◌≡◌, ℕ, ◌≤◌, Bool, true, List, [], ◌∷◌, ◌++◌, Option, Some, ℤ, ◌≤ℤ◌}
use Rattle.std.specs.Option.{option_and_then}
use Rattle.std.specs.declared.cmp.Ordering.{Ordering}
use Rattle.std.specs.declared.cmp.Ordering.TheVariants.{Equal}

-- at most is an order, and equal in the listing is the same
pub record OrderLaws {V : Type 0} (cmp : V → V → Ordering) (below : V → V → Bool) : Type 0 where
  pub exact : (a b : V) → cmp a b ≡ Equal → a ≡ b
  pub reflexive : (a : V) → below a a ≡ true
  pub transitive : (a b c : V) → below a b ≡ true → below b c ≡ true → below a c ≡ true
  pub antisymmetric : (a b : V) → below a b ≡ true → below b a ≡ true → a ≡ b

-- where the greater value extends the lesser one does, to no greater value; and the value of a list
-- grows by extension
pub record StepLaws {V I : Type 0} (opens : I → Option V) (extends : V → I → I → Option V)
    (below : V → V → Bool) (value_of : List I → Option V) : Type 0 where
  pub monotone : (a b c : V) (last next : I) → below a b ≡ true → extends b last next ≡ Some c
      → (x : V) × (extends a last next ≡ Some x) × (below x c ≡ true)
  pub opening : (first : I) → value_of (first ∷ []) ≡ opens first
  pub extension : (before : List I) (last next : I)
      → value_of (before ++ last ∷ next ∷ []) ≡ option_and_then (λ v. extends v last next)
      (value_of (before ++ last ∷ []))

-- a lesser value costs no more
abbrev pub RespectsOrder : {V : Type 0} → (V → V → Bool) → (V → ℤ) → Type 0
RespectsOrder {V} below cost = (a b : V) → below a b ≡ true → cost a ≤ℤ cost b

-- a lesser value has no greater grade
abbrev pub GradesOrder : {V : Type 0} → (V → V → Bool) → (V → ℕ) → Type 0
GradesOrder {V} below grade = (a b : V) → below a b ≡ true → grade a ≤ grade b
