-- Flags and marks that are put rank by rank.
use Rattle.std.proofs.Common.{◌≡◌, ◌<◌, ◌+◌, ◌⊎◌, ◌||◌, inl, inr, ℕ, Bool, true, false, not, List, length, take, get_or, set, refl, sym, ap, subst, ◌∙◌}
use Rattle.std.proofs.lemmas.Bool.Decides.{eqb_tells}
use Rattle.std.proofs.lemmas.Grind.{get_or-set_at}
use Rattle.std.proofs.lemmas.List.{get_or-set_other}
use Rattle.crew_resource.specs.Members.{Member}
use Rattle.crew_dirty.specs.Machinery.Marks.{IsMarkedBy}
use Rattle.crew_dirty.proofs.Taken.{taken-before, taken-here, taken-more}

-- one rank more has its flag
module _ (first flags : List Bool) (ranks : List ℕ) (i : ℕ) (value : ℕ → Bool) (h : i < length ranks) (bound : get_or ranks i 0 < length flags) where
  abbrev now : List Bool
  now = set flags (get_or ranks i 0) (value (get_or ranks i 0))

  here : (rank : ℕ) → get_or ranks i 0 ≡ rank → get_or now rank false ≡ value rank
  here rank e = get_or-set_at flags (get_or ranks i 0) rank (value (get_or ranks i 0)) false (sym e) bound ∙ ap value e

  other : (rank : ℕ) → (get_or ranks i 0 ≡ rank → ⊥) → get_or now rank false ≡ get_or flags rank false
  other rank ne = get_or-set_other flags (get_or ranks i 0) rank (value (get_or ranks i 0)) false (λ e. ne (sym e))

  pub flags-there : ((rank : ℕ) → Member (take i ranks) rank → get_or flags rank false ≡ value rank) → (rank : ℕ) → Member (take (i + 1) ranks) rank → get_or now rank false ≡ value rank
  flags-there there rank m = elim (taken-more ranks i h rank m) as (λ _. get_or now rank false ≡ value rank) [
    | inl k ↦ elim (eqb_tells (get_or ranks i 0) rank) as (λ _. get_or now rank false ≡ value rank) [ inl t ↦ here rank t.1 | inr f ↦ other rank f.1 ∙ there rank k ]
    | inr e ↦ here rank e
  ]

  pub flags-elsewhere : ((rank : ℕ) → (Member (take i ranks) rank → ⊥) → get_or flags rank false ≡ get_or first rank false)
      → (rank : ℕ) → (Member (take (i + 1) ranks) rank → ⊥) → get_or now rank false ≡ get_or first rank false
  flags-elsewhere elsewhere rank out =
      other rank (λ e. out (subst (Member (take (i + 1) ranks)) e (taken-here ranks i h))) ∙ elsewhere rank (λ k. out (taken-before ranks i h rank k))

-- one rank more is marked
pub or-true : (a b : Bool) → (a || b) ≡ true → (a ≡ true) ⊎ (b ≡ true)
or-true true b e = inl refl
or-true false b e = inr e

pub or-left : (a b : Bool) → a ≡ true → (a || b) ≡ true
or-left true b e = refl
or-left false b e = absurd (let q : ⊥ = (cc) in q)

pub or-right : (a b : Bool) → b ≡ true → (a || b) ≡ true
or-right true b e = refl
or-right false b e = e

not-true : (b : Bool) → not b ≡ true → b ≡ false
not-true true e = absurd (let q : ⊥ = (cc) in q)
not-true false e = refl

not-false : (b : Bool) → b ≡ false → not b ≡ true
not-false true e = absurd (let q : ⊥ = (cc) in q)
not-false false e = refl

module _ (first marks : List Bool) (places ranks : List ℕ) (flags : List Bool) (i : ℕ) (h : i < length ranks) (bound : get_or places (get_or ranks i 0) 0 < length marks) where
  abbrev place : ℕ
  place = get_or places (get_or ranks i 0) 0

  abbrev value : Bool
  value = get_or marks place false || not (get_or flags (get_or ranks i 0) false)

  abbrev marked : List Bool
  marked = set marks place value

  at-place : (k : ℕ) → place ≡ k → get_or marked k false ≡ value
  at-place k e = get_or-set_at marks place k value false (sym e) bound

  at-other : (k : ℕ) → (place ≡ k → ⊥) → get_or marked k false ≡ get_or marks k false
  at-other k ne = get_or-set_other marks place k value false (λ e. ne (sym e))

  stays : (k : ℕ) → get_or marks k false ≡ true → get_or marked k false ≡ true
  stays k t = elim (eqb_tells place k) as (λ _. get_or marked k false ≡ true) [
    | inl e ↦ at-place k e.1 ∙ or-left (get_or marks place false) (not (get_or flags (get_or ranks i 0) false)) (ap (λ (n : ℕ). get_or marks n false) e.1 ∙ t)
    | inr f ↦ at-other k f.1 ∙ t
  ]

  pub marks-kept : ((k : ℕ) → get_or first k false ≡ true → get_or marks k false ≡ true) → (k : ℕ) → get_or first k false ≡ true → get_or marked k false ≡ true
  marks-kept kept k t = stays k (kept k t)

  pub marks-there : ((k : ℕ) → IsMarkedBy (take i ranks) places flags k → get_or marks k false ≡ true) → (k : ℕ) → IsMarkedBy (take (i + 1) ranks) places flags k → get_or marked k false ≡ true
  marks-there there k m = elim (taken-more ranks i h m.0 m.1) as (λ _. get_or marked k false ≡ true) [
    | inl was ↦ stays k (there k (m.0, was, m.2, m.3))
    | inr e ↦
        let here : place ≡ k = ap (λ (r : ℕ). get_or places r 0) e ∙ m.2 in
        let none : get_or flags (get_or ranks i 0) false ≡ false = ap (λ (r : ℕ). get_or flags r false) e ∙ m.3 in
        at-place k here ∙ or-right (get_or marks place false) (not (get_or flags (get_or ranks i 0) false)) (not-false (get_or flags (get_or ranks i 0) false) none)
  ]

  abbrev From : ℕ → Type 0
  From k = (get_or first k false ≡ true) ⊎ IsMarkedBy (take (i + 1) ranks) places flags k

  later : (k : ℕ) → (get_or first k false ≡ true) ⊎ IsMarkedBy (take i ranks) places flags k → From k
  later k s = elim s as (λ _. From k) [ inl t ↦ inl t | inr m ↦ inr (m.0, taken-before ranks i h m.0 m.1, m.2, m.3) ]

  pub marks-from : ((k : ℕ) → get_or marks k false ≡ true → (get_or first k false ≡ true) ⊎ IsMarkedBy (take i ranks) places flags k) → (k : ℕ) → get_or marked k false ≡ true → From k
  marks-from from k t = elim (eqb_tells place k) as (λ _. From k) [
    | inl e ↦
        elim (or-true (get_or marks place false) (not (get_or flags (get_or ranks i 0) false)) (sym (at-place k e.1) ∙ t)) as (λ _. From k) [
          | inl was ↦ later k (from k (ap (λ (n : ℕ). get_or marks n false) (sym e.1) ∙ was))
          | inr none ↦ inr (get_or ranks i 0, taken-here ranks i h, e.1, not-true (get_or flags (get_or ranks i 0) false) none)
        ]
    | inr f ↦ later k (from k (sym (at-other k f.1) ∙ t))
  ]
