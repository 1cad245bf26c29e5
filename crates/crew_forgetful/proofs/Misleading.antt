-- Two labels that show why walks must be looked at, and why an arrival's pool is made from filtered fronts: one has the
-- lesser history, the other the lesser walk, and boarding forgets histories.
use Rattle.std.proofs.Common.{◌≡◌, Bool, true, false, [], ◌∷◌, inl, inr, refl, sym, ◌∙◌, ap, subst}
use Rattle.std.proofs.lemmas.Bool.{false≢true}
use Rattle.crew_resource.specs.Members.{Member}
use Rattle.crew_resource.specs.Labels.{IsLocal}
use Rattle.crew_forgetful.specs.Forgetful.{StandsFor, IsPool}
use Rattle.crew_forgetful.specs.Misleading.{at_most_bool, below, same_sum, forgets, lesser_history, lesser_walk, both_labels, kept_by_value, Boarding, boarded_with}

of_both : (P : (Bool × Bool) × Bool → Type 0) → P lesser_history → P lesser_walk → (e : (Bool × Bool) × Bool) → Member both_labels e → P e
of_both P p q e (inl r) = subst P r p
of_both P p q e (inr (inl r)) = subst P r q
of_both P p q e (inr (inr b)) = absurd b

of_one : (P : (Bool × Bool) × Bool → Type 0) → (l : (Bool × Bool) × Bool) → P l → (e : (Bool × Bool) × Bool) → Member (l ∷ []) e → P e
of_one P l p e (inl r) = subst P r p
of_one P l p e (inr b) = absurd b

single_alone : (l : (Bool × Bool) × Bool) (v : Bool × Bool) (w : Bool) (x : Bool × Bool) (y : Bool) → Member (l ∷ []) (v, w) → Member (l ∷ []) (x, y) → (v ≡ x) × (w ≡ y)
single_alone l v w x y m n =
    let p : l ≡ (v, w) = of_one (λ e. l ≡ e) l refl (v, w) m in
    let q : l ≡ (x, y) = of_one (λ e. l ≡ e) l refl (x, y) n in
    (sym (ap (λ z. z.0) p) ∙ ap (λ z. z.0) q, sym (ap (λ z. z.1) p) ∙ ap (λ z. z.1) q)

-- by values alone the label with the lesser walk goes
pub dropped_by_value : IsLocal below at_most_bool (λ v w. Member both_labels (v, w)) kept_by_value
dropped_by_value = record {
  among = λ v w m. of_one (λ e. Member both_labels e) lesser_history (inl refl) (v, w) m;
  covers = λ x y m. of_both (λ e. (v : Bool × Bool) × (w : Bool) × Member kept_by_value (v, w) × (below v e.0 ≡ true) × (v ≡ e.0 → at_most_bool w e.1 ≡ true))
      ((false, false), true, inl refl, refl, λ _. refl)
      ((false, false), true, inl refl, refl, λ e. absurd (false≢true (ap (λ z. z.1) e)))
      (x, y) m;
  alone = λ v w x y m n h. single_alone lesser_history v w x y m n;
}

-- by the rule that looks at walks both stay
pub kept_by_walk : IsPool below same_sum at_most_bool (λ v w. Member both_labels (v, w)) both_labels
kept_by_walk = record {
  among = λ v w m. m;
  covers = λ x y m. (x, y, m, of_both (λ e. StandsFor below same_sum at_most_bool e.0 e.1 e.0 e.1) (refl, λ _. refl) (refl, λ _. refl) (x, y) m);
  alone = λ v w x y m n h. of_both (λ a. StandsFor below same_sum at_most_bool a.0 a.1 x y → (a.0 ≡ x) × (a.1 ≡ y))
      (of_both (λ b. StandsFor below same_sum at_most_bool (false, false) true b.0 b.1 → ((false, false) ≡ b.0) × (true ≡ b.1))
      (λ _. (refl, refl)) (λ k. absurd (false≢true (k.1 refl))) (x, y) n)
      (of_both (λ b. StandsFor below same_sum at_most_bool (false, true) false b.0 b.1 → ((false, true) ≡ b.0) × (false ≡ b.1))
      (λ k. absurd (false≢true k.0)) (λ _. (refl, refl)) (x, y) n)
      (v, w) m h;
}

-- boarded, all labels leave the lesser walk
pub all_leave_the_lesser_walk : IsLocal below at_most_bool (Boarding both_labels) (boarded_with false)
all_leave_the_lesser_walk = record {
  among = λ v w m. of_one (λ e. Boarding both_labels e.0 e.1) ((false, false), false) ((false, true), inr (inl refl), refl) (v, w) m;
  covers = λ x y s. ((false, false), false, inl refl, subst (λ z. below (false, false) z ≡ true) (sym s.2) (of_both (λ e. below (false, false) (forgets e.0) ≡ true) refl refl (s.0, y) s.1), λ _. refl);
  alone = λ v w x y m n h. single_alone ((false, false), false) v w x y m n;
}

-- and what values alone keep leaves the greater
pub values_leave_the_greater_walk : IsLocal below at_most_bool (Boarding kept_by_value) (boarded_with true)
values_leave_the_greater_walk = record {
  among = λ v w m. of_one (λ e. Boarding kept_by_value e.0 e.1) ((false, false), true) ((false, false), inl refl, refl) (v, w) m;
  covers = λ x y s. (
    (false, false),
    true,
    inl refl,
    subst (λ z. below (false, false) z ≡ true) (sym s.2) (of_one (λ e. below (false, false) (forgets e.0) ≡ true) lesser_history refl (s.0, y) s.1),
    λ _. of_one (λ e. at_most_bool true e.1 ≡ true) lesser_history refl (s.0, y) s.1,
  );
  alone = λ v w x y m n h. single_alone ((false, false), true) v w x y m n;
}
