-- Where settings allow no pairing of more than 138 hours, fronts are those of the shorter rules.
use Rattle.std.proofs.Common.{◌≡◌, ℕ, Bool, true, false, ◌&&◌, List, [], ◌∷◌, inl, inr, ℤ, refl, sym, ◌∙◌, ap, subst}
use Rattle.crew_flights.specs.Timetable.{IsSound, Timetable}
use Rattle.crew_rules.specs.declared.settings.Settings.{Settings}
use Rattle.crew_resource.specs.Members.{Member}
use Rattle.crew_pairing.specs.Legs.{Leg}
use Rattle.crew_pairing.specs.Pairings.{last_duty}
use Rattle.crew_pairing.specs.Vectors.{vector_of}
use Rattle.crew_pairing.specs.declared.duty.Duty.{Duty}
use Rattle.crew_pairing.specs.declared.vector.PairingVector.{PairingVector}
use Rattle.crew_vector.specs.Dominance as PlainOrder
use Rattle.crew_vector.specs.Fronts as Plain
use Rattle.crew_answers.specs.Dominance.{is_at_most}
use Rattle.crew_answers.specs.Fronts.{At, Clean, IsFrontAt, IsUndominated, StaysUndominated}
use Rattle.crew_answers.specs.LongVectors.{LongVector, is_long, long_vector_of, settings_of_sums}
use Rattle.crew_answers.specs.ShortPairings.{sums_of, with_no_past, with_no_pasts}
use Rattle.crew_answers.proofs.ShortPartials.{no-past, partial-from-long, partial-to-long}

and-yes : (b : Bool) → (b && true) ≡ b
and-yes true = refl
and-yes false = refl

-- without a past the sums decide
pub no-past-at-most : (a b : PairingVector) → is_at_most (with_no_past a) (with_no_past b) ≡ PlainOrder.is_at_most a b
no-past-at-most a b = and-yes (PlainOrder.is_at_most a b)

-- entries of both kinds
pub entry-in : (es : List (PairingVector × List (List Leg))) (v : PairingVector) (w : List (List Leg)) → Member es (v, w) → Member (with_no_pasts es) (with_no_past v, w)
entry-in [] v w m = absurd m
entry-in (e ∷ es) v w (inl q) = inl (ap (λ (z : PairingVector × List (List Leg)). (with_no_past z.0, z.1)) q)
entry-in (e ∷ es) v w (inr m) = inr (entry-in es v w m)

pub entry-out : (es : List (PairingVector × List (List Leg))) (v : LongVector) (w : List (List Leg)) → Member (with_no_pasts es) (v, w) → Member es (v.sums, w) × (v ≡ with_no_past v.sums)
entry-out [] v w m = absurd m
entry-out (e ∷ es) v w (inl q) = (
  inl (ap (λ (z : LongVector × List (List Leg)). (z.0.sums, z.1)) q),
  sym (ap (λ (z : LongVector × List (List Leg)). z.0) q) ∙ ap (λ (z : LongVector × List (List Leg)). with_no_past z.0.sums) q,
)
entry-out (e ∷ es) v w (inr m) = let k = entry-out es v w m in (inr k.0, k.1)

pub sums-in : (fs : List (LongVector × List (List Leg))) (v : LongVector) (w : List (List Leg)) → Member fs (v, w) → Member (sums_of fs) (v.sums, w)
sums-in [] v w m = absurd m
sums-in (f ∷ fs) v w (inl q) = inl (ap (λ (z : LongVector × List (List Leg)). (z.0.sums, z.1)) q)
sums-in (f ∷ fs) v w (inr m) = inr (sums-in fs v w m)

pub sums-out : (fs : List (LongVector × List (List Leg))) (v : PairingVector) (w : List (List Leg)) → Member (sums_of fs) (v, w) → (u : LongVector) × Member fs (u, w) × (u.sums ≡ v)
sums-out [] v w m = absurd m
sums-out (f ∷ fs) v w (inl q) = (f.0, inl (ap (λ z. (f.0, z)) (ap (λ (z : PairingVector × List (List Leg)). z.1) q)), ap (λ (z : PairingVector × List (List Leg)). z.0) q)
sums-out (f ∷ fs) v w (inr m) = let k = sums-out fs v w m in (k.0, inr k.1, k.2)

-- where no entry has a past
pub no-pasts-again : (fs : List (LongVector × List (List Leg))) → ((v : LongVector) (w : List (List Leg)) → Member fs (v, w) → v ≡ with_no_past v.sums) → with_no_pasts (sums_of fs) ≡ fs
no-pasts-again [] h = refl
no-pasts-again (f ∷ fs) h =
    ap (λ z. (z, f.1) ∷ with_no_pasts (sums_of fs)) (sym (h f.0 f.1 (inl refl)))
    ∙ ap (λ z. f ∷ z) (no-pasts-again fs (λ v w m. h v w (inr m)))

module _ (s : Settings) (t : Timetable) (base : List ℕ) (price : ℤ) (sound : IsSound t) (short : is_long s ≡ false) where
  pub at-to-long : (d : Duty) (v : PairingVector) (w : List (List Leg)) → Plain.At (settings_of_sums s) t base price d v w → At s t base price d (with_no_past v) w
  at-to-long d v w a = record {
    first = a.first;
    others = a.others;
    partial = partial-to-long s t base a.first a.others sound short a.partial;
    ends = a.ends;
    vector = ap with_no_past a.vector ∙ sym (no-past s price a.first a.others short);
    walk = a.walk;
  }

  pub at-from-long : (d : Duty) (v : LongVector) (w : List (List Leg)) → At s t base price d v w → Plain.At (settings_of_sums s) t base price d v.sums w
  at-from-long d v w a = record {
    first = a.first;
    others = a.others;
    partial = partial-from-long s t base a.first a.others sound short a.partial;
    ends = a.ends;
    vector = ap (λ z. z.sums) (a.vector ∙ no-past s price a.first a.others short);
    walk = a.walk;
  }

  -- vectors of partials have no past
  pub at-no-past : (d : Duty) (v : LongVector) (w : List (List Leg)) → At s t base price d v w → v ≡ with_no_past v.sums
  at-no-past d v w a =
      let q = a.vector ∙ no-past s price a.first a.others short in
      q ∙ ap (λ z. with_no_past z.sums) (sym q)

  pub undominated-to-long : (d : Duty) (v : PairingVector) → Plain.IsUndominated (settings_of_sums s) t base price d v → IsUndominated s t base price d (with_no_past v)
  undominated-to-long d v u = record {
    walk = u.walk;
    has = at-to-long d v u.walk u.has;
    unbeaten = λ x y a b.
        let q = at-no-past d x y a in
        u.unbeaten x.sums y (at-from-long d x y a) (
          sym (no-past-at-most x.sums v) ∙ (ap (λ z. is_at_most z (with_no_past v)) (sym q) ∙ b.0),
          λ e. b.1 (q ∙ ap with_no_past e),
        );
  }

  pub undominated-from-long : (d : Duty) (v : LongVector) → IsUndominated s t base price d v → Plain.IsUndominated (settings_of_sums s) t base price d v.sums
  undominated-from-long d v u = record {
    walk = u.walk;
    has = at-from-long d v u.walk u.has;
    unbeaten = λ x y a b.
        let q = at-no-past d v u.walk u.has in
        u.unbeaten (with_no_past x) y (at-to-long d x y a) (
          ap (is_at_most (with_no_past x)) q ∙ (no-past-at-most x v.sums ∙ b.0),
          λ e. b.1 (ap (λ z. z.sums) e),
        );
  }

  pub stays-to-long : (first : Duty) (others : List Duty) → Plain.StaysUndominated (settings_of_sums s) t base price first others → StaysUndominated s t base price first others
  stays-to-long first others h = λ taken left e.
      subst (IsUndominated s t base price (last_duty first taken)) (sym (no-past s price first taken short))
      (undominated-to-long (last_duty first taken) (vector_of (settings_of_sums s) price (first ∷ taken)) (h taken left e))

  pub stays-from-long : (first : Duty) (others : List Duty) → StaysUndominated s t base price first others → Plain.StaysUndominated (settings_of_sums s) t base price first others
  stays-from-long first others h = λ taken left e. undominated-from-long (last_duty first taken) (long_vector_of s price first taken) (h taken left e)

  pub clean-to-long : (d : Duty) (v : PairingVector) (w : List (List Leg)) → Plain.Clean (settings_of_sums s) t base price d v w → Clean s t base price d (with_no_past v) w
  unfolding at-to-long
  clean-to-long d v w c = record { at = at-to-long d v w c.at; stays = stays-to-long c.at.first c.at.others c.stays }

  pub clean-from-long : (d : Duty) (v : LongVector) (w : List (List Leg)) → Clean s t base price d v w → Plain.Clean (settings_of_sums s) t base price d v.sums w
  unfolding at-from-long
  clean-from-long d v w c = record { at = at-from-long d v w c.at; stays = stays-from-long c.at.first c.at.others c.stays }

  pub front-to-long : (d : Duty) (es : List (PairingVector × List (List Leg))) → Plain.IsFrontAt (settings_of_sums s) t base price d es → IsFrontAt s t base price d (with_no_pasts es)
  front-to-long d es f = record {
    clean = λ v w m.
        let k = entry-out es v w m in
        subst (λ z. Clean s t base price d z w) (sym k.1) (clean-to-long d v.sums w (f.clean v.sums w k.0));
    undominated = λ v w m.
        let k = entry-out es v w m in
        subst (IsUndominated s t base price d) (sym k.1) (undominated-to-long d v.sums (f.undominated v.sums w k.0));
    least = λ v w y m c. f.least v.sums w y (entry-out es v w m).0 (clean-from-long d v y c);
    every = λ v u.
        let e = f.every v.sums (undominated-from-long d v u) in
        (e.0, subst (λ z. Member (with_no_pasts es) (z, e.0)) (sym (at-no-past d v u.walk u.has)) (entry-in es v.sums e.0 e.1));
  }

  pub front-no-past : (d : Duty) (fs : List (LongVector × List (List Leg))) → IsFrontAt s t base price d fs → with_no_pasts (sums_of fs) ≡ fs
  front-no-past d fs f = no-pasts-again fs (λ v w m. let u = f.undominated v w m in at-no-past d v u.walk u.has)

  pub front-from-long : (d : Duty) (fs : List (LongVector × List (List Leg))) → IsFrontAt s t base price d fs → Plain.IsFrontAt (settings_of_sums s) t base price d (sums_of fs)
  front-from-long d fs f = record {
    clean = λ v w m.
        let k = sums-out fs v w m in
        subst (λ z. Plain.Clean (settings_of_sums s) t base price d z w) k.2 (clean-from-long d k.0 w (f.clean k.0 w k.1));
    undominated = λ v w m.
        let k = sums-out fs v w m in
        subst (Plain.IsUndominated (settings_of_sums s) t base price d) k.2 (undominated-from-long d k.0 (f.undominated k.0 w k.1));
    least = λ v w y m c.
        let k = sums-out fs v w m in
        f.least k.0 w y k.1 (subst (λ z. Clean s t base price d z y)
        (ap with_no_past (sym k.2) ∙ (let u = f.undominated k.0 w k.1 in sym (at-no-past d k.0 u.walk u.has))) (clean-to-long d v y c));
    every = λ v u.
        let e = f.every (with_no_past v) (undominated-to-long d v u) in
        (e.0, sums-in fs (with_no_past v) e.0 e.1);
  }
