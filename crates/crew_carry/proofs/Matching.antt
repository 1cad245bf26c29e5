-- Two lists in one order, side by side.
use Rattle.std.proofs.Common.{◌≡◌, ◌+◌, ◌<◌, ◌≤◌, ◌++◌, ◌∷◌, [], inl, inr, ℕ, List, Option, Some, None, length, refl, sym, ap, ◌∙◌, subst, arith}
use Rattle.std.specs.Prelude.{slice_get, IfSome, IsNone}
use Rattle.std.specs.Cmp.{IsTotalOrder}
use Rattle.std.specs.Ordering.{ordering_reverse}
use Rattle.std.specs.declared.cmp.Ordering.{Ordering}
use Rattle.std.specs.declared.cmp.Ordering.TheVariants.{Equal, Less}
use Rattle.std.proofs.lemmas.Bool.{cases_lt}
use Rattle.crew_carry.specs.Machinery.Matches.{AreTied, DoRise}
use Rattle.crew_carry.proofs.Pushed.{pushed-before, pushed-last, pushed-out, some-is, there-before}

less-equal : (o : Ordering) → o ≡ Less → o ≡ Equal → ⊥
less-equal o p q = cc

module _ {X : Type 0} (cmp : X → X → Ordering) (total : IsTotalOrder cmp) (xs ys : List X) (i : ℕ) (x : X) (here : slice_get xs i ≡ Some x) where
  -- what comes before n is less than all from i on
  abbrev pub IsPassed : ℕ → ℕ → Type 0
  IsPassed from n = (p k : ℕ) (z y : X) → from ≤ p → slice_get xs p ≡ Some z → k < n → slice_get ys k ≡ Some y → cmp y z ≡ Less

  abbrev pub AreLess : ℕ → ℕ → Type 0
  AreLess n m = (k : ℕ) (y : X) → n ≤ k → k < m → slice_get ys k ≡ Some y → cmp y x ≡ Less

  pub passed-more : DoRise cmp xs → (n m : ℕ) → IsPassed i n → AreLess n m → IsPassed (i + 1) m
  passed-more rise n m old less p k z y h s b t =
      elim (cases_lt k n) [
        | inl l ↦ old p k z y (omega (arith, h)) s l t
        | inr g ↦ total.trans y x z (less k y g b t) (rise i p x z (omega (arith, h)) here s)
      ]

  -- what is less than the later of two that tie is less than the first
  less-tied : (z y : X) → cmp z y ≡ Less → cmp y x ≡ Equal → cmp z x ≡ Less
  less-tied z y l e = total.antisymm z x ∙ (ap ordering_reverse (sym (total.congr y x z e)) ∙ (sym (total.antisymm z y) ∙ l))

  -- what ties stands where no less is found any more
  pub tied-there : DoRise cmp ys → (n m q : ℕ) (y : X) → IsPassed i n → AreLess n m → ((z : X) → slice_get ys m ≡ Some z → cmp z x ≡ Less → ⊥) → slice_get ys q ≡ Some y → cmp y x ≡ Equal → q ≡ m
  tied-there rise n m q y old less there at tie =
      elim (cases_lt q m) [
        | inl l ↦
            absurd
            (elim (cases_lt q n) [
              | inl a ↦ less-equal (cmp y x) (old i q x y (omega arith) here a at) tie
              | inr b ↦ less-equal (cmp y x) (less q y b l at) tie
            ])
        | inr g ↦
            elim (cases_lt m q) [
              | inl a ↦
                  let z = there-before ys m q y a at in
                  absurd (there z.0 z.1 (less-tied z.0 y (rise m q z.0 y a z.1 at) tie))
              | inr b ↦ omega (arith, g, b)
            ]
      ]

  module _ (places : List (Option ℕ)) (long : length places ≡ i) (m : ℕ) (o : Option ℕ) (some : IfSome o (λ q. (q ≡ m) × (y : X) × (slice_get ys m ≡ Some y) × (cmp y x ≡ Equal))) where
    the-tied : (o : Option ℕ) (q : ℕ) → o ≡ Some q → IfSome o (λ q. (q ≡ m) × (y : X) × (slice_get ys m ≡ Some y) × (cmp y x ≡ Equal)) → (q ≡ m) × (y : X) × (slice_get ys m ≡ Some y) × (cmp y x ≡ Equal)
    the-tied None q e h = absurd (let n : ⊥ = (cc) in n)
    the-tied (Some r) q e h =
        let same : r ≡ q = (cc) in
        (sym same ∙ h.0, h.1, h.2, h.3)

    pub tied-more : ((p q : ℕ) → slice_get places p ≡ Some (Some q) → AreTied cmp xs ys p q) → (p q : ℕ) → slice_get (places ++ o ∷ []) p ≡ Some (Some q) → AreTied cmp xs ys p q
    tied-more old p q e =
        elim (pushed-out places o p (Some q) e) [
          | inl h ↦ old p q h
          | inr h ↦
              let t = the-tied o q h.1 some in
              let place : i ≡ p = sym long ∙ sym h.0 in
              (x, t.1, subst (λ (k : ℕ). slice_get xs k ≡ Some x) place here, subst (λ (k : ℕ). slice_get ys k ≡ Some t.1) (sym t.0) t.2, t.3)
        ]

    is-there : (o : Option ℕ) → IfSome o (λ q. (q ≡ m) × (y : X) × (slice_get ys m ≡ Some y) × (cmp y x ≡ Equal)) → (IsNone o → ⊥) → o ≡ Some m
    is-there None h n = absurd (n refl)
    is-there (Some r) h n = ap Some h.0

    pub all-more : DoRise cmp ys → (n : ℕ) → IsPassed i n → AreLess n m → ((z : X) → slice_get ys m ≡ Some z → cmp z x ≡ Less → ⊥)
        → (IsNone o → (y : X) → slice_get ys m ≡ Some y → cmp y x ≡ Equal → ⊥)
        → ((p q : ℕ) → p < i → AreTied cmp xs ys p q → slice_get places p ≡ Some (Some q))
        → (p q : ℕ) → p < i + 1 → AreTied cmp xs ys p q → slice_get (places ++ o ∷ []) p ≡ Some (Some q)
    all-more rise n passed less there none old p q h t =
        elim (cases_lt p i) [
          | inl l ↦ pushed-before places o p (Some q) (old p q l t)
          | inr g ↦
              let place : i ≡ p = omega (arith, g, h) in
              let mine : x ≡ t.0 = some-is xs i x t.0 here (subst (λ (k : ℕ). slice_get xs k ≡ Some t.0) (sym place) t.2) in
              let tie : cmp t.1 x ≡ Equal = subst (λ (z : X). cmp t.1 z ≡ Equal) (sym mine) t.4 in
              let at : q ≡ m = tied-there rise n m q t.1 passed less there t.3 tie in
              let o-is = is-there o some (λ e. none e t.1 (subst (λ (k : ℕ). slice_get ys k ≡ Some t.1) at t.3) tie) in
              pushed-last places o p (sym place ∙ sym long) ∙ ap Some (o-is ∙ ap Some (sym at))
        ]
