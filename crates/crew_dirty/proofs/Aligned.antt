-- Windows of two lists that rise in one order: where they hold the same items, these stand side by
-- side.
use Rattle.std.proofs.Common.{◌≡◌, ◌<◌, ◌≤◌, ◌+◌, ◌-◌, inl, inr, ℕ, zero, suc, List, Some, sym, subst, arith}
use Rattle.std.specs.Prelude.{slice_get}
use Rattle.std.specs.declared.cmp.Ordering.{Ordering}
use Rattle.std.specs.declared.cmp.Ordering.TheVariants.{Less}
use Rattle.crew_carry.proofs.Pushed.{some-is}
use Rattle.crew_net.proofs.Segments.{le-or-lt}

-- each stands before all later ones
abbrev pub Rise : {X : Type 0} → (X → X → Ordering) → List X → Type 0
Rise {X} cmp xs = (i j : ℕ) (a b : X) → i < j → slice_get xs i ≡ Some a → slice_get xs j ≡ Some b → cmp a b ≡ Less

-- what stands in one window stands in the other
abbrev pub StandsToo : {X : Type 0} → List X → List X → ℕ → ℕ → ℕ → ℕ → Type 0
StandsToo {X} xs ys a b c d = (p : ℕ) → a ≤ p → p < b → (q : ℕ) × (x : X) × (c ≤ q) × (q < d) × (slice_get xs p ≡ Some x) × (slice_get ys q ≡ Some x)

module _ {X : Type 0} (cmp : X → X → Ordering) (not-both : (x y : X) → cmp x y ≡ Less → cmp y x ≡ Less → ⊥) where
  pub one-place : (xs : List X) → Rise cmp xs → (i j : ℕ) (x : X) → slice_get xs i ≡ Some x → slice_get xs j ≡ Some x → i ≡ j
  one-place xs rise i j x p q = elim (le-or-lt i j) [
    | inl l ↦ elim (le-or-lt j i) [
      | inl m ↦ omega (arith, l, m)
      | inr m ↦ absurd (not-both x x (rise i j x x m p q) (rise i j x x m p q))
    ]
    | inr l ↦ absurd (not-both x x (rise j i x x l q p) (rise j i x x l q p))
  ]

  no-less : (xs ys : List X) (a b c d : ℕ) → Rise cmp xs → Rise cmp ys → StandsToo xs ys a b c d → (k q : ℕ) (x : X) → a + k < b → c ≤ q → slice_get xs (a + k) ≡ Some x → slice_get ys q ≡ Some x → c + k ≤ q
  no-less xs ys a b c d rx ry there zero q x h l p r = omega (arith, l)
  no-less xs ys a b c d rx ry there (suc k) q x h l p r =
      let was = there (a + k) (omega arith) (omega (arith, h)) in
      let y = was.1 in
      let low = no-less xs ys a b c d rx ry there k was.0 y (omega (arith, h)) was.2 was.4 was.5 in
      let less : cmp y x ≡ Less = rx (a + k) (a + suc k) y x (omega arith) was.4 p in
      elim (le-or-lt q was.0) [
        | inr m ↦ omega (arith, low, m)
        | inl m ↦
            elim (le-or-lt was.0 q) [
              | inr n ↦ absurd (not-both x y (ry q was.0 x y n r was.5) less)
              | inl n ↦ absurd (
                  let same : q ≡ was.0 = omega (arith, m, n) in
                  let one : x ≡ y = some-is ys was.0 x y (subst (λ (j : ℕ). slice_get ys j ≡ Some x) same r) was.5 in
                  let itself : cmp x x ≡ Less = subst (λ (z : X). cmp z x ≡ Less) (sym one) less in
                  not-both x x itself itself)
            ]
      ]

  module _ (xs ys : List X) (a b c d : ℕ) (rx : Rise cmp xs) (ry : Rise cmp ys) (there : StandsToo xs ys a b c d) (back : StandsToo ys xs c d a b) where
    -- side by side
    pub side-by-side : (k : ℕ) → a + k < b → (x : X) × (slice_get xs (a + k) ≡ Some x) × (slice_get ys (c + k) ≡ Some x) × (c + k < d)
    side-by-side k h =
        let s = there (a + k) (omega arith) h in
        let x = s.1 in
        let low = no-less xs ys a b c d rx ry there k s.0 x h s.2 s.4 s.5 in
        let j : ℕ = s.0 - c in
        let e : c + j ≡ s.0 = (let l = s.2 in omega (arith, l)) in
        let at : slice_get ys (c + j) ≡ Some x = subst (λ (n : ℕ). slice_get ys n ≡ Some x) (sym e) s.5 in
        let high = no-less ys xs c d a b ry rx back j (a + k) x (let l = s.3 in omega (arith, l, e)) (omega arith) at s.4 in
        let same : s.0 ≡ c + k = omega (arith, low, high, e) in
        (x, s.4, subst (λ (n : ℕ). slice_get ys n ≡ Some x) same s.5, (let l = s.3 in omega (arith, l, same)))

    pub no-longer : b - a ≤ d - c
    no-longer = elim (le-or-lt b a) [
      | inl l ↦ omega (arith, l)
      | inr l ↦
          let k : ℕ = b - a - 1 in
          let e : a + k ≡ b - 1 = omega (arith, l) in
          let h : a + k < b = omega (arith, l, e) in
          let s = (side-by-side k h).3 in
          omega (arith, s, l)
    ]
