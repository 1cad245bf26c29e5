-- The least cost with one partial more.
use Rattle.std.proofs.Common.{◌≡◌, ℕ, ◌+◌, ap, length-append, count_by, ℤ, ◌≤ℤ◌, Bool, true, false, List, [], ◌∷◌, ◌++◌, Option, Some, None, ◌⊎◌, ◌∙◌, int_le, refl, sym, arith, inl, inr, if◌then◌else◌}
use Rattle.std.specs.Int.{int_min}
use Rattle.std.proofs.lemmas.Int.{ints}
use Rattle.crew_resource.specs.Members.{Member}
use Rattle.crew_pairing.proofs.InList.{Member-either, Member-left, Member-right}
use Rattle.std.proofs.lemmas.Grind.{common_steps}
use Rattle.crew_audit.specs.declared.tally.Tally.{Tally}
use Rattle.crew_audit.specs.Tallies.{IsLeast, IsTally, cost_in, least_with}
use Rattle.crew_audit.specs.declared.partial.Partial.{Partial}

int_min-either : (a b : ℤ) → (int_min a b ≡ a) ⊎ (int_min a b ≡ b)
int_min-either a b = by (int_le a b) refl
  where
    by : (t : Bool) → int_le a b ≡ t → (int_min a b ≡ a) ⊎ (int_min a b ≡ b)
    by true e = inl (grind (arith, ints))
    by false e = inr (grind (arith, ints))

only : (p q : Partial) → Member (p ∷ []) q → p ≡ q
only p q (inl e) = e
only p q (inr m) = absurd m

min-first : (a b : ℤ) → int_min a b ≤ℤ a
min-first a b = grind (arith, ints)

min-second : (a b : ℤ) → int_min a b ≤ℤ b
min-second a b = grind (arith, ints)

none-yet : (ps : List Partial) (p : Partial) (b : Bool) → p.pairing ≡ b → IsLeast ps None → IsLeast (ps ++ p ∷ []) (if b then Some (cost_in p) else None)
none-yet ps p true e h = (
  (p, Member-right ps (p ∷ []) p (inl refl), e, refl),
  λ q m t. elim (Member-either ps (p ∷ []) q m) [ inl k ↦ absurd (h q k t) | inr k ↦ let same = only p q k in rw same (omega (arith, ints)) ],
)
none-yet ps p false e h = λ q m t. elim (Member-either ps (p ∷ []) q m) [ inl k ↦ h q k t | inr k ↦ let same = only p q k in cc ]

some-so-far : (ps : List Partial) (p : Partial) (cost : ℤ) (b : Bool) → p.pairing ≡ b → IsLeast ps (Some cost) → IsLeast (ps ++ p ∷ []) (Some (if b then int_min cost (cost_in p) else cost))
some-so-far ps p cost true e h = (
  by (int_min-either cost (cost_in p)),
  λ q m t. elim (Member-either ps (p ∷ []) q m) [
    | inl k ↦ let below = h.1 q k t in let least = min-first cost (cost_in p) in omega (arith, ints, below, least)
    | inr k ↦ let same = only p q k in rw (← same) (min-second cost (cost_in p))
  ],
)
  where
    by : (int_min cost (cost_in p) ≡ cost) ⊎ (int_min cost (cost_in p) ≡ cost_in p) → (q : Partial) × Member (ps ++ p ∷ []) q × (q.pairing ≡ true) × (cost_in q ≡ int_min cost (cost_in p))
    by (inl k) = let q = h.0 in (q.0, Member-left ps (p ∷ []) q.0 q.1, q.2, q.3 ∙ sym k)
    by (inr k) = (p, Member-right ps (p ∷ []) p (inl refl), e, sym k)
some-so-far ps p cost false e h =
    let q = h.0 in (
      (q.0, Member-left ps (p ∷ []) q.0 q.1, q.2, q.3),
      λ r m t. elim (Member-either ps (p ∷ []) r m) [ inl k ↦ h.1 r k t | inr k ↦ let same = only p r k in cc ],
    )

pub least-more : (ps : List Partial) (p : Partial) (cost : Option ℤ) → IsLeast ps cost → IsLeast (ps ++ p ∷ []) (least_with cost p)
least-more ps p None h = none-yet ps p p.pairing refl h
least-more ps p (Some cost) h = some-so-far ps p cost p.pairing refl h

pub tally-more : (ps : List Partial) (p : Partial) (tally next : Tally) → IsTally ps tally → next.partials ≡ tally.partials + 1 → next.pairings ≡ tally.pairings + (if p.pairing then 1 else 0)
    → next.cost ≡ least_with tally.cost p → IsTally (ps ++ p ∷ []) next
tally-more ps p tally next h a b e = record {
  partials = omega (arith, a, h.partials, length-append ps (p ∷ []));
  pairings = b ∙ ap (λ (n : ℕ). n + (if p.pairing then 1 else 0)) h.pairings ∙ sym (counted ps p);
  cost = rw e (least-more ps p tally.cost h.cost);
}
  where
    counted : (ps : List Partial) (p : Partial) → count_by (λ (q : Partial). q.pairing) (ps ++ p ∷ []) ≡ count_by (λ (q : Partial). q.pairing) ps + (if p.pairing then 1 else 0)
    counted ps p = grind (arith, common_steps)
