-- Where settings allow no pairing of more than 138 hours, what is local to a node is so by the shorter rules.
use Rattle.std.proofs.Common.{◌≡◌, ℕ, Bool, true, false, ◌&&◌, cond, List, [], ◌∷◌, inl, inr, ℤ, pos, ◌+ℤ◌, ◌-ℤ◌, int_le, refl, sym, ◌∙◌, ap, subst}
use Rattle.crew_rules.specs.declared.settings.Settings.{Settings}
use Rattle.crew_resource.specs.Members.{Member}
use Rattle.crew_pairing.specs.Legs.{Leg}
use Rattle.crew_pairing.specs.Pairings.{rest}
use Rattle.crew_pairing.specs.declared.duty.Duty.{Duty}
use Rattle.crew_pairing.specs.declared.vector.PairingVector.{PairingVector}
use Rattle.crew_vector.specs.Dominance as PlainOrder
use Rattle.crew_vector.specs.Locals as Plain
use Rattle.crew_history.specs.Histories as Histories
use Rattle.crew_history.specs.Limits.{arrival, period_of}
use Rattle.crew_answers.specs.Dominance.{is_at_most}
use Rattle.crew_answers.specs.Locals.{Candidate, IsLocalAt, grown, is_within_limits}
use Rattle.crew_answers.specs.LongVectors.{LongVector, is_long, long_vector_of, settings_of_sums}
use Rattle.crew_answers.specs.ShortPairings.{fed_with_no_past, sums_of, with_no_past, with_no_pasts}
use Rattle.crew_answers.proofs.ShortFronts.{entry-in, entry-out, no-past-at-most, no-pasts-again, sums-in, sums-out}
use Rattle.crew_answers.proofs.ShortPartials.{no-past}

and-yes : (b : Bool) → (b && true) ≡ b
and-yes true = refl
and-yes false = refl

feed-in : (feed : Plain.Feed) (e : Duty) (es : List (PairingVector × List (List Leg))) → Member feed (e, es) → Member (fed_with_no_past feed) (e, with_no_pasts es)
feed-in [] e es m = absurd m
feed-in (f ∷ feed) e es (inl q) = inl (ap (λ (z : Duty × List (PairingVector × List (List Leg))). (z.0, with_no_pasts z.1)) q)
feed-in (f ∷ feed) e es (inr m) = inr (feed-in feed e es m)

feed-out : (feed : Plain.Feed) (e : Duty) (fs : List (LongVector × List (List Leg))) → Member (fed_with_no_past feed) (e, fs)
    → (es : List (PairingVector × List (List Leg))) × Member feed (e, es) × (with_no_pasts es ≡ fs)
feed-out [] e fs m = absurd m
feed-out (f ∷ feed) e fs (inl q) = (
  f.1,
  inl (ap (λ z. (z, f.1)) (ap (λ (z : Duty × List (LongVector × List (List Leg))). z.0) q)),
  ap (λ (z : Duty × List (LongVector × List (List Leg))). z.1) q,
)
feed-out (f ∷ feed) e fs (inr m) = let k = feed-out feed e fs m in (k.0, inr k.1, k.2)

module _ (s : Settings) (short : is_long s ≡ false) where
  abbrev Sums : Settings
  Sums = settings_of_sums s

  -- the caps on sums are all limits
  within : (d : Duty) (x : LongVector) → is_within_limits s d x ≡ Plain.is_vector_within_caps Sums x.sums
  within d x =
      ap (λ b. Plain.is_vector_within_caps Sums x.sums && cond b (int_le x.since_rest (pos 8_280)
      && int_le (Histories.minutes_after x.history (arrival d -ℤ pos 10_080)) (pos s.fdp_cap)) true) short
      ∙ and-yes (Plain.is_vector_within_caps Sums x.sums)

  -- no past grows
  grown-plainly : (e d : Duty) (u : PairingVector) → grown s e d (with_no_past u) ≡ with_no_past (Plain.grown Sums e d u)
  grown-plainly e d u =
      ap (λ b. let v : LongVector = record {
        sums = Plain.grown s e d u;
        since_rest = cond b (cond (int_le (pos 1_800) (rest e d)) (pos 0) (pos 0 +ℤ (d.report -ℤ e.report))) (pos 0);
        history = cond b (Histories.grown (pos 10_080) [] (period_of d)) [];
      } in v) short

  module _ (base : List ℕ) (price : ℤ) (d : Duty) (feed : Plain.Feed) where
    pub candidate-to-long : (v : PairingVector) (w : List (List Leg)) → Plain.Candidate Sums base price d feed v w → Candidate s base price d (fed_with_no_past feed) (with_no_past v) w
    candidate-to-long v w (inl c) = inl (
      c.0,
      within d (long_vector_of s price d []) ∙ c.1,
      ap with_no_past c.2 ∙ sym (no-past s price d [] short),
      c.3,
    )
    candidate-to-long v w (inr c) = inr (
      c.0,
      with_no_pasts c.1,
      with_no_past c.2,
      c.3,
      feed-in feed c.0 c.1 c.4,
      entry-in c.1 c.2 c.3 c.5,
      within d (grown s c.0 d (with_no_past c.2)) ∙ c.6,
      ap with_no_past c.7 ∙ sym (grown-plainly c.0 d c.2),
      c.8,
    )

    pub candidate-from-long : (x : LongVector) (w : List (List Leg)) → Candidate s base price d (fed_with_no_past feed) x w
        → Plain.Candidate Sums base price d feed x.sums w × (x ≡ with_no_past x.sums)
    candidate-from-long x w (inl c) =
        let is = c.2 ∙ no-past s price d [] short in (
          inl (c.0, sym (within d (long_vector_of s price d [])) ∙ c.1, ap (λ z. z.sums) is, c.3),
          is ∙ ap (λ z. with_no_past z.sums) (sym is),
        )
    candidate-from-long x w (inr c) =
        let f = feed-out feed c.0 c.1 c.4 in
        let u = entry-out f.0 c.2 c.3 (subst (λ z. Member z (c.2, c.3)) (sym f.2) c.5) in
        let is : x ≡ with_no_past (Plain.grown Sums c.0 d c.2.sums) = c.7 ∙ (ap (grown s c.0 d) u.1 ∙ grown-plainly c.0 d c.2.sums) in (
          inr (c.0, f.0, c.2.sums, c.3, f.1, u.0, sym (within d (grown s c.0 d c.2)) ∙ c.6, ap (λ z. z.sums) is, c.8),
          is ∙ ap (λ z. with_no_past z.sums) (sym is),
        )

    pub local-to-long : (es : List (PairingVector × List (List Leg))) → Plain.IsLocalAt Sums base price d feed es → IsLocalAt s base price d (fed_with_no_past feed) (with_no_pasts es)
    local-to-long es l = record {
      among = λ x w m.
          let k = entry-out es x w m in
          subst (λ z. Candidate s base price d (fed_with_no_past feed) z w) (sym k.1) (candidate-to-long x.sums w (l.among x.sums w k.0));
      covers = λ x y c.
          let k = candidate-from-long x y c in
          let o = l.covers x.sums y k.0 in (
            with_no_past o.0,
            o.1,
            entry-in es o.0 o.1 o.2,
            ap (is_at_most (with_no_past o.0)) k.1 ∙ (no-past-at-most o.0 x.sums ∙ o.3),
            λ e. o.4 (ap (λ z. z.sums) e),
          );
      alone = λ v w x y m n h.
          let a = entry-out es v w m in
          let b = entry-out es x y n in
          let k = l.alone v.sums w x.sums y a.0 b.0 (sym (no-past-at-most v.sums x.sums) ∙ (ap (λ z. is_at_most z (with_no_past x.sums)) (sym a.1) ∙ (ap (is_at_most v) (sym b.1) ∙ h))) in
          (a.1 ∙ (ap with_no_past k.0 ∙ sym b.1), k.1);
    }

    pub local-no-past : (fs : List (LongVector × List (List Leg))) → IsLocalAt s base price d (fed_with_no_past feed) fs → with_no_pasts (sums_of fs) ≡ fs
    local-no-past fs l = no-pasts-again fs (λ v w m. (candidate-from-long v w (l.among v w m)).1)

    pub local-from-long : (fs : List (LongVector × List (List Leg))) → IsLocalAt s base price d (fed_with_no_past feed) fs → Plain.IsLocalAt Sums base price d feed (sums_of fs)
    local-from-long fs l = record {
      among = λ v w m.
          let k = sums-out fs v w m in
          subst (λ z. Plain.Candidate Sums base price d feed z w) k.2 (candidate-from-long k.0 w (l.among k.0 w k.1)).0;
      covers = λ x y c.
          let o = l.covers (with_no_past x) y (candidate-to-long x y c) in
          let n = (candidate-from-long o.0 o.1 (l.among o.0 o.1 o.2)).1 in (
            o.0.sums,
            o.1,
            sums-in fs o.0 o.1 o.2,
            sym (no-past-at-most o.0.sums x) ∙ (ap (λ z. is_at_most z (with_no_past x)) (sym n) ∙ o.3),
            λ e. o.4 (n ∙ ap with_no_past e),
          );
      alone = λ v w x y m n h.
          let a = sums-out fs v w m in
          let b = sums-out fs x y n in
          let p = (candidate-from-long a.0 w (l.among a.0 w a.1)).1 in
          let q = (candidate-from-long b.0 y (l.among b.0 y b.1)).1 in
          let le : PlainOrder.is_at_most a.0.sums b.0.sums ≡ true = ap (λ z. PlainOrder.is_at_most z b.0.sums) a.2 ∙ (ap (PlainOrder.is_at_most v) b.2 ∙ h) in
          let k = l.alone a.0 w b.0 y a.1 b.1 (ap (λ z. is_at_most z b.0) p ∙ (ap (is_at_most (with_no_past a.0.sums)) q ∙ (no-past-at-most a.0.sums b.0.sums ∙ le))) in
          (sym a.2 ∙ (ap (λ z. z.sums) k.0 ∙ b.2), k.1);
    }
