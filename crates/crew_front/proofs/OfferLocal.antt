-- What an offer does is what one more candidate does to the undominated ones.
use Rattle.std.proofs.Common.{◌≡◌, ◌≢◌, ℕ, zero, suc, Bool, true, false, cond, not, List, [], ◌∷◌, ◌++◌, set, map, Some, ◌⊎◌, inl, inr, refl, sym, ◌∙◌, ap, subst, ⊎_elim, Ordering}
use Rattle.std.specs.Prelude.{slice_get}
use Rattle.std.specs.List.{All, Any, filter}
use Rattle.std.specs.Ordering.{is_lt, is_le, ordering_reverse}
use Rattle.std.specs.declared.cmp.Ordering.TheVariants.{Less, Equal, Greater}
use Rattle.std.proofs.lemmas.Bool.{cases_Bool, false≢true, not-true, not_from_false, cond-true, cond-false}
use Rattle.crew_resource.specs.Members.{Member}
use Rattle.crew_resource.specs.Labels.{Beats, IsLocal}
use Rattle.crew_resource.proofs.Order.{order}
use Rattle.crew_resource.proofs.Members.{Member-at, Member-get_or, Member-filter_in, Member-filter_out, Member-append, Member-append_left, Member-append_right}
use Rattle.crew_resource.proofs.Offers.{More, IsLocal-beaten, IsLocal-kept, IsLocal-tied}
use Rattle.crew_resource.specs.Resource.{OrderLaws}
use Rattle.crew_resource.specs.Entries.{PartedFromAll, IsApart, placed}
use Rattle.crew_pairing.specs.Keys.{walk_cmp, walk_total, walk_at_most}
use Rattle.crew_pairing.specs.Legs.{Leg}
use Rattle.crew_front.specs.Walks.{lesser}
use Rattle.crew_pairing.proofs.WalkOrder.{walk_order}
use Rattle.crew_front.specs.Offers.{Offered}
use Rattle.crew_front.specs.declared.front.Offer.{Offer}
use Rattle.crew_front.specs.declared.front.Offer.TheVariants.{Kept, Beaten, Tied}
use Rattle.crew_resource.proofs.Lists.{Member-All}

pub Member-placed_out : {X : Type 0} (g : X → Bool) (x : X) (xs : List X) (y : X) → Member (placed g x xs) y → (x ≡ y) ⊎ Member xs y
Member-placed_out g x [] y (inl e) = inl e
Member-placed_out g x [] y (inr b) = absurd b
Member-placed_out {X} g x (z ∷ zs) y h =
    ⊎_elim {C = (x ≡ y) ⊎ Member (z ∷ zs) y}
    (λ t. let m : Member (x ∷ z ∷ zs) y = rw t at h in m)
    (λ f.
    let m : Member (z ∷ placed g x zs) y = rw f at h in
    ⊎_elim {C = (x ≡ y) ⊎ Member (z ∷ zs) y} (λ e. inr (inl e)) (λ r. ⊎_elim inl (λ q. inr (inr q)) (Member-placed_out g x zs y r)) m)
    (cases_Bool (g z))

pub Member-placed_in : {X : Type 0} (g : X → Bool) (x : X) (xs : List X) (y : X) → (x ≡ y) ⊎ Member xs y → Member (placed g x xs) y
Member-placed_in g x [] y h = h
Member-placed_in g x (z ∷ zs) y h =
    let rest = λ (k : (x ≡ y) ⊎ Member zs y). Member-placed_in g x zs y k in
    elim (g z) as (λ b. Member (cond b (x ∷ z ∷ zs) (z ∷ placed g x zs)) y)
    [ true ↦ h | false ↦ ⊎_elim {C = Member (z ∷ placed g x zs) y} (λ e. inr (rest (inl e))) (⊎_elim inl (λ m. inr (rest (inr m)))) h ]

less_is : (o r : Ordering) → r ≡ ordering_reverse o → is_lt o ≡ false → is_le r ≡ true
less_is Less r e h = absurd (false≢true (sym h))
less_is Equal r e h = ap is_le e
less_is Greater r e h = ap is_le e

lt_le : (o : Ordering) → is_lt o ≡ true → is_le o ≡ true
lt_le Less h = refl
lt_le Equal h = refl
lt_le Greater h = absurd (false≢true h)

-- the lesser walk is one of the two, and at most both
lesser_facts : (a b : List (List Leg)) → ((lesser a b ≡ a) ⊎ (lesser a b ≡ b)) × (walk_at_most (lesser a b) a ≡ true) × (walk_at_most (lesser a b) b ≡ true)
lesser_facts a b = ⊎_elim {C = ((lesser a b ≡ a) ⊎ (lesser a b ≡ b)) × (walk_at_most (lesser a b) a ≡ true) × (walk_at_most (lesser a b) b ≡ true)}
    (λ t. let is : lesser a b ≡ b = cond-true (is_lt (walk_cmp b a)) b a t in
    (inr is, subst (λ z. walk_at_most z a ≡ true) (sym is) (lt_le (walk_cmp b a) t), subst (λ z. walk_at_most z b ≡ true) (sym is) (walk_order.reflexive b)))
    (λ f. let is : lesser a b ≡ a = cond-false (is_lt (walk_cmp b a)) b a f in
    (inl is, subst (λ z. walk_at_most z a ≡ true) (sym is) (walk_order.reflexive a), subst (λ z. walk_at_most z b ≡ true) (sym is) (less_is (walk_cmp b a) (walk_cmp a b) (walk_total.antisymm a b) f)))
    (cases_Bool (is_lt (walk_cmp b a)))

module _ {V : Type 0} (cmp : V → V → Ordering) (below : V → V → Bool) (laws : OrderLaws cmp below) where
  apart_from : (a : V) (xs : List (V × List (List Leg))) (y : V × List (List Leg)) → PartedFromAll cmp below a (map (λ e. e.0) xs) → Member xs y → (below a y.0 ≡ false) × (below y.0 a ≡ false)
  apart_from a [] y h m = absurd m
  apart_from a (x ∷ xs) y h (inl e) = (subst (λ z. below a z.0 ≡ false) e h.0.forth, subst (λ z. below z.0 a ≡ false) e h.0.back)
  apart_from a (x ∷ xs) y h (inr m) = apart_from a xs y h.1 m

  differ : (a b : V) → below a b ≡ false → a ≢ b
  differ a b h e = false≢true (sym h ∙ (ap (below a) (sym e) ∙ laws.reflexive a))

  -- of two entries one is at most the other only where they have one vector
  apart_pair : (xs : List (V × List (List Leg))) (a b : V × List (List Leg)) → IsApart cmp below (map (λ e. e.0) xs) → Member xs a → Member xs b → below a.0 b.0 ≡ true → a.0 ≡ b.0
  apart_pair [] a b h m n t = absurd m
  apart_pair (x ∷ xs) a b h (inl e) (inl f) t = ap (λ p. p.0) (sym e ∙ f)
  apart_pair (x ∷ xs) a b h (inl e) (inr n) t = absurd (false≢true (sym (subst (λ z. below z.0 b.0 ≡ false) e (apart_from x.0 xs b h.0 n).0) ∙ t))
  apart_pair (x ∷ xs) a b h (inr m) (inl f) t = absurd (false≢true (sym (subst (λ z. below a.0 z.0 ≡ false) f (apart_from x.0 xs a h.0 m).1) ∙ t))
  apart_pair (x ∷ xs) a b h (inr m) (inr n) t = apart_pair xs a b h.1 m n t

  -- nothing beats a vector that is there
  pub none_beats_there : (xs : List (V × List (List Leg))) (i : ℕ) (v : V) (was : List (List Leg)) → IsApart cmp below (map (λ e. e.0) xs) → slice_get xs i ≡ Some (v, was) → Any (λ e. Beats below e.0 v) xs → ⊥
  none_beats_there xs i v was h g any = any.4.1 (apart_pair xs any.1 (v, was) h (Member-get_or xs any.0 any.1 any.2 any.3) (Member-at xs i (v, was) g) any.4.0)

  -- nothing beats what no entry is at most
  pub none_beats_first : (xs : List (V × List (List Leg))) (v : V) → All (λ e. below e.0 v ≡ false) xs → Any (λ e. Beats below e.0 v) xs → ⊥
  none_beats_first xs v all any = false≢true (sym (Member-All (λ e. below e.0 v ≡ false) xs any.1 all (Member-get_or xs any.0 any.1 any.2 any.3)) ∙ any.4.0)

  -- a vector that no entry is at most isn't there
  pub never_first : (xs : List (V × List (List Leg))) (v : V) → All (λ e. below e.0 v ≡ false) xs → Any (λ e. e.0 ≡ v) xs → ⊥
  never_first xs v all any =
      false≢true (sym (Member-All (λ e. below e.0 v ≡ false) xs any.1 all (Member-get_or xs any.0 any.1 any.2 any.3)) ∙ subst (λ z. below any.1.0 z ≡ true) any.4 (laws.reflexive any.1.0))

  -- nor is one that an entry beats
  pub never_beaten : (xs : List (V × List (List Leg))) (v : V) → IsApart cmp below (map (λ e. e.0) xs) → Any (λ e. Beats below e.0 v) xs → Any (λ e. e.0 ≡ v) xs → ⊥
  never_beaten xs v h beaten there =
      beaten.4.1
      (apart_pair xs beaten.1 there.1 h (Member-get_or xs beaten.0 beaten.1 beaten.2 beaten.3) (Member-get_or xs there.0 there.1 there.2 there.3)
      (subst (λ z. below beaten.1.0 z ≡ true) (sym there.4) beaten.4.0)
      ∙ there.4)

  -- after one entry's walk changed
  set_out : (xs : List (V × List (List Leg))) (i : ℕ) (v : V) (was now : List (List Leg)) → IsApart cmp below (map (λ e. e.0) xs) → slice_get xs i ≡ Some (v, was)
      → (x : V) (y : List (List Leg)) → Member (set xs i (v, now)) (x, y) → ((x ≡ v) × (y ≡ now)) ⊎ (Member xs (x, y) × (x ≢ v))
  set_out [] i v was now h g x y m = absurd m
  set_out (z ∷ zs) zero v was now h g x y (inl e) = inl (ap (λ p. p.0) (sym e), ap (λ p. p.1) (sym e))
  set_out (z ∷ zs) zero v was now h g x y (inr m) =
      let head : z ≡ (v, was) = (cc) in
      let k = apart_from z.0 zs (x, y) h.0 m in
      inr (inr m, λ e. differ x z.0 k.1 (e ∙ sym (ap (λ p. p.0) head)))
  set_out (z ∷ zs) (suc i) v was now h g x y (inl e) =
      let k = apart_from z.0 zs (v, was) h.0 (Member-at zs i (v, was) g) in
      inr (inl e, λ q. differ z.0 v k.0 (ap (λ p. p.0) e ∙ q))
  set_out (z ∷ zs) (suc i) v was now h g x y (inr m) = ⊎_elim inl (λ k. inr (inr k.0, k.1)) (set_out zs i v was now h.1 g x y m)

  set_in : (xs : List (V × List (List Leg))) (i : ℕ) (v : V) (was now : List (List Leg)) → slice_get xs i ≡ Some (v, was)
      → (x : V) (y : List (List Leg)) → Member xs (x, y) → (x ≡ v) ⊎ Member (set xs i (v, now)) (x, y)
  set_in [] i v was now g x y m = absurd m
  set_in (z ∷ zs) zero v was now g x y (inl e) = let head : z ≡ (v, was) = (cc) in inl (ap (λ p. p.0) (sym e ∙ head))
  set_in (z ∷ zs) zero v was now g x y (inr m) = inr (inr m)
  set_in (z ∷ zs) (suc i) v was now g x y (inl e) = inr (inl e)
  set_in (z ∷ zs) (suc i) v was now g x y (inr m) = ⊎_elim inl (λ k. inr (inr k)) (set_in zs i v was now g x y m)

  set_there : (xs : List (V × List (List Leg))) (i : ℕ) (v : V) (was now : List (List Leg)) → slice_get xs i ≡ Some (v, was) → Member (set xs i (v, now)) (v, now)
  set_there [] i v was now g = absurd (let q : ⊥ = (cc) in q)
  set_there (z ∷ zs) zero v was now g = inl refl
  set_there (z ∷ zs) (suc i) v was now g = inr (set_there zs i v was now g)

  abbrev pub Local : (V → List (List Leg) → Type 0) → List (V × List (List Leg)) → Type 0
  Local = IsLocal below walk_at_most

  abbrev pub AndOne : (V → List (List Leg) → Type 0) → V → List (List Leg) → V → List (List Leg) → Type 0
  AndOne = More V (List (List Leg)) below walk_at_most (order cmp below laws) walk_order

  pub offered_local : (C : V → List (List Leg) → Type 0) (old : List (V × List (List Leg))) (v : V) (w : List (List Leg)) (new : List (V × List (List Leg))) (o : Offer)
      → IsApart cmp below (map (λ e. e.0) old) → Local C old → Offered below cmp old v w new o → Local (AndOne C v w) new
  offered_local C old v w new Beaten apart i h =
      let any = h.0 in
      subst (λ es. IsLocal below walk_at_most (AndOne C v w) es) (sym h.1)
      (IsLocal-beaten V (List (List Leg)) below walk_at_most (order cmp below laws) walk_order C old v w i any.1.0 any.1.1
      (Member-get_or old any.0 any.1 any.2 any.3) (any.4.0, any.4.1))
  offered_local C old v w new Tied apart i h =
      let now = lesser h.1 w in
      let facts = lesser_facts h.1 w in
      subst (λ es. IsLocal below walk_at_most (AndOne C v w) es) (sym h.3)
      (IsLocal-tied V (List (List Leg)) below walk_at_most (order cmp below laws) walk_order C old (set old h.0 (v, now)) v w h.1 now i
      (Member-at old h.0 (v, h.1) h.2) facts.0 facts.1 facts.2
      (set_out old h.0 v h.1 now apart h.2)
      (set_in old h.0 v h.1 now h.2)
      (set_there old h.0 v h.1 now h.2))
  offered_local C old v w new Kept apart i h =
      let rest = filter (λ e. not (below v e.0)) old in
      let all = placed (λ e. is_lt (cmp v e.0)) (v, w) rest in
      subst (λ es. IsLocal below walk_at_most (AndOne C v w) es) (sym h.1)
      (IsLocal-kept V (List (List Leg)) below walk_at_most (order cmp below laws) walk_order C old all v w i
      (λ x y m. Member-All (λ e. below e.0 v ≡ false) old (x, y) h.0 m)
      (λ x y m. ⊎_elim
      (λ e. inl (ap (λ p. p.0) (sym e), ap (λ p. p.1) (sym e)))
      (λ k. let q = Member-filter_out (λ e. not (below v e.0)) old (x, y) k in inr (q.0, not-true (below v x) q.1))
      (Member-placed_out (λ e. is_lt (cmp v e.0)) (v, w) rest (x, y) m))
      (λ x y m f. Member-placed_in (λ e. is_lt (cmp v e.0)) (v, w) rest (x, y) (inr (Member-filter_in (λ e. not (below v e.0)) old (x, y) m (not_from_false (below v x) f))))
      (Member-placed_in (λ e. is_lt (cmp v e.0)) (v, w) rest (v, w) (inl refl)))

  -- the same over lists of candidates
  pub offered_list : (cs : List (V × List (List Leg))) (old : List (V × List (List Leg))) (v : V) (w : List (List Leg)) (new : List (V × List (List Leg))) (o : Offer)
      → IsApart cmp below (map (λ e. e.0) old) → Offered below cmp old v w new o → Local (λ x y. Member cs (x, y)) old → Local (λ x y. Member (cs ++ (v, w) ∷ []) (x, y)) new
  offered_list cs old v w new o apart h i =
      let k = offered_local (λ x y. Member cs (x, y)) old v w new o apart i h in
      record {
        among = λ x y m. ⊎_elim
            (λ c. Member-append_left cs ((v, w) ∷ []) (x, y) c)
            (λ e. Member-append_right cs ((v, w) ∷ []) (x, y) (inl (ap (λ z. (z, w)) (sym e.0) ∙ ap (λ z. (x, z)) (sym e.1))))
            (k.among x y m);
        covers = λ x y m. k.covers x y (⊎_elim inl (⊎_elim (λ e. inr (ap (λ p. p.0) (sym e), ap (λ p. p.1) (sym e))) (λ b. absurd b)) (Member-append cs ((v, w) ∷ []) (x, y) m));
        alone = k.alone;
      }
