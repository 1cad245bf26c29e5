-- The best of one base: it is the first of the base's cheapest, and that of all bases is the best of its own.
use Rattle.std.proofs.Common.{◌≡◌, ◌<◌, ℕ, ℤ, List, [], ◌∷◌, Option, Some, None, inl, inr, refl, sym, ap, subst, ⊎_elim, arith}
use Rattle.std.specs.Prelude.{◌<ℤ◌, slice_get}
use Rattle.std.proofs.lemmas.Int.{ints}
use Rattle.crew_fronts.specs.crew_answers.Bests.{IsBest}
use Rattle.crew_fronts.proofs.crew_answers_lemmas.Cheapest.{best-least}
use Rattle.crew_flights.specs.Timetable.{IsSound, Timetable}
use Rattle.crew_pairing.specs.Legs.{Leg}
use Rattle.crew_rules.specs.Settings.{IsChecked}
use Rattle.crew_rules.specs.declared.settings.Settings.{Settings}
use Rattle.crew_plan.proofs.Below.{first-of, shown-clean, with-least-walk}
use Rattle.crew_plan.proofs.Tied.{same-paired}
use Rattle.crew_plan.specs.Cheapest.{AreCheapestOf, IsBestOf, IsShown, IsShownOf}
use Rattle.crew_fronts.proofs.crew_solve_lemmas.crew_vector_lemmas.Orders.{walk-order}
use Rattle.crew_fronts.specs.crew_solve.crew_vector.Bests.{NoDearer}
use Rattle.crew_fronts.specs.crew_solve.crew_vector.declared.priced.PricedPairing.{PricedPairing}

not-less : {X : Type 0} (a b : ℤ) → a <ℤ b → b ≡ a → X
not-less a b h e = absurd (omega (arith, ints))

never-both : {X : Type 0} (a b : ℤ) → a <ℤ b → b <ℤ a → X
never-both a b h k = absurd (omega (arith, ints))

-- where neither is dearer they cost the same by the same walk
same-both : (a : ℤ) (w : List (List Leg)) (b : ℤ) (x : List (List Leg)) → NoDearer a w b x → NoDearer b x a w → (a ≡ b) × (w ≡ x)
same-both a w b x (inl h) (inl k) = never-both a b h k
same-both a w b x (inl h) (inr k) = not-less a b h k.0
same-both a w b x (inr h) (inl k) = not-less b a k h.0
same-both a w b x (inr h) (inr k) = (h.0, walk-order.antisymmetric w x h.1 k.1)

module _ (s : Settings) (t : Timetable) (sound : IsSound t) where
  same-first : (p q : PricedPairing) → IsShown s t p → IsShown s t q → NoDearer p.cost p.walk q.cost q.walk → NoDearer q.cost q.walk p.cost p.walk → p ≡ q
  same-first p q h k m n = let both = same-both p.cost p.walk q.cost q.walk m n in same-paired s t sound p q h.pairing k.pairing both.1 both.0

  pub one-best-of : (base : List ℕ) (a b : Option PricedPairing) → IsBestOf s t base a → IsBestOf s t base b → a ≡ b
  one-best-of base None None h k = refl
  one-best-of base None (Some b) h k = absurd (h b k.0.0.pairing k.0.1)
  one-best-of base (Some a) None h k = absurd (k a h.0.0.pairing h.0.1)
  one-best-of base (Some a) (Some b) h k = ap Some (same-first a b h.0.0 k.0.0 (h.1 b k.0) (k.1 a h.0))

  pub own-first : (base : List ℕ) (limit : ℕ) (ps : List PricedPairing) (best : Option PricedPairing) → 0 < limit → AreCheapestOf s t base limit ps → IsBestOf s t base best → best ≡ slice_get ps 0
  own-first base limit [] None some h is = refl
  own-first base limit [] (Some best) some h is = ⊎_elim {C = Some best ≡ None} (λ m. absurd m) (λ k. let full = k.0 in absurd (omega (arith, some, full))) (h.least best is.0)
  own-first base limit (p ∷ ps) None some h is = let shown = h.shown p (inl refl) in absurd (is p shown.0.pairing shown.1)
  own-first base limit (p ∷ ps) (Some best) some h is =
      let shown = h.shown p (inl refl) in
      ap Some (same-first best p is.0.0 shown.0 (is.1 p shown) (first-of (IsShownOf s t base) limit p ps h best is.0))

module _ (s : Settings) (t : Timetable) (checked : IsChecked s) (sound : IsSound t) where
  pub best-own : (best : PricedPairing) → IsBest s t (Some best) → IsBestOf s t best.base (Some best)
  best-own best h =
      let q = with-least-walk s t checked sound best h.0 in
      let both = same-both best.cost best.walk q.0.cost q.0.walk (h.1 q.0 (shown-clean s t checked sound q.0 q.1)) (inr (q.2, q.3)) in
      let same = same-paired s t sound q.0 best q.1.pairing h.0.pairing (sym both.1) q.2 in (
        (subst (IsShown s t) same q.1, refl),
        λ p shown. h.1 p (shown-clean s t checked sound p shown.0),
        λ p is own. best-least s t checked sound best p h is,
      )
