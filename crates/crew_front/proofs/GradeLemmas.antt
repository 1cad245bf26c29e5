-- Lists by grade.
use Rattle.std.proofs.Common.{◌≡◌, ℕ, zero, suc, ◌+◌, ◌≤◌, ◌<◌, Bool, true, false, cond, not, List, [], ◌∷◌, ◌++◌, length, take, map, get_or, Some, None, ◌⊎◌, inl, inr, refl, sym, ◌∙◌, ap, subst, ⊎_elim, arith}
use Rattle.std.proofs.Math.Dec.{ltb}
use Rattle.std.specs.Prelude.{◌||◌}
use Rattle.std.specs.List.{filter, position, position_or_len, AllWithin}
use Rattle.std.specs.List.Sorted.{IsNonDecreasingBy}
use Rattle.std.proofs.lemmas.Bool.{cases_Bool, not-true, ltb-true, le-ltb, ltb-false}
use Rattle.std.proofs.Math.Numerals.{one-add}
use Rattle.crew_resource.specs.Members.{Member}
use Rattle.crew_resource.specs.Resource.{GradesOrder}
use Rattle.crew_resource.proofs.Members.{Member-append, Member-append_left, Member-append_right, Member-filter_in, Member-filter_out, Member-get_or, Member-get, Member-map_in, Member-map_out}
use Rattle.crew_resource.specs.Entries.{placed}
use Rattle.crew_front.specs.Machinery.Grades.{AreRising, AreGraded, Admitted, HoldSame}
use Rattle.crew_resource.proofs.Lists.{none_passes, Member-All}
use Rattle.std.proofs.lemmas.List.Quantifiers.{position-Some}
use Rattle.crew_front.proofs.OfferLocal.{Member-placed_in, Member-placed_out}

or_true : (b : Bool) → (b || true) ≡ true
or_true true = refl
or_true false = refl

get_or-take : {X : Type 0} (n : ℕ) (xs : List X) (i : ℕ) (d : X) → i < length (take n xs) → get_or (take n xs) i d ≡ get_or xs i d
get_or-take zero xs i d h = absurd (omega arith)
get_or-take (suc n) [] i d h = refl
get_or-take (suc n) (x ∷ xs) zero d h = refl
get_or-take (suc n) (x ∷ xs) (suc i) d h = get_or-take n xs i d (omega arith)

get_or-take_within : {X : Type 0} (n : ℕ) (xs : List X) (i : ℕ) → i < length (take n xs) → i < length xs
get_or-take_within zero xs i h = absurd (omega arith)
get_or-take_within (suc n) [] i h = absurd (omega arith)
get_or-take_within (suc n) (x ∷ xs) zero h = omega arith
get_or-take_within (suc n) (x ∷ xs) (suc i) h = let rest = get_or-take_within n xs i (omega arith) in omega (arith, rest)

-- tests that agree on the elements
pub filter_agree : {X : Type 0} (p q : X → Bool) (xs : List X) → ((x : X) → Member xs x → p x ≡ q x) → filter p xs ≡ filter q xs
filter_agree p q [] h = refl
filter_agree p q (x ∷ xs) h =
    ap (λ b. cond b (x ∷ filter p xs) (filter p xs)) (h x (inl refl))
    ∙ ap (λ r. cond (q x) (x ∷ r) r) (filter_agree p q xs (λ y m. h y (inr m)))

length-filter : {X : Type 0} (p : X → Bool) (xs : List X) → length (filter p xs) ≤ length xs
length-filter p [] = omega arith
length-filter p (x ∷ xs) =
    let rest = length-filter p xs in
    elim (p x) as (λ b. length (cond b (x ∷ filter p xs) (filter p xs)) ≤ suc (length xs)) [ true ↦ omega (arith, rest) | false ↦ omega (arith, rest) ]

-- where each passes none goes
pub filter_all : {X : Type 0} (p : X → Bool) (xs : List X) → ((x : X) → Member xs x → p x ≡ true) → filter p xs ≡ xs
filter_all p [] h = refl
filter_all p (x ∷ xs) h =
    ap (λ b. cond b (x ∷ filter p xs) (filter p xs)) (h x (inl refl)) ∙ ap (λ r. x ∷ r) (filter_all p xs (λ y m. h y (inr m)))

-- with none gone, each passes
pub none_gone : {X : Type 0} (p : X → Bool) (xs : List X) → length xs ≤ length (filter p xs) → (x : X) → Member xs x → p x ≡ true
none_gone p [] h x m = absurd m
none_gone p (z ∷ xs) h x m =
    ⊎_elim {C = p x ≡ true}
    (λ t.
    let here : suc (length xs) ≤ length (z ∷ filter p xs) = rw t at h in
    ⊎_elim {C = p x ≡ true} (λ e. sym (ap p e) ∙ t) (λ k. none_gone p xs (omega (arith, here)) x k) m)
    (λ f.
    let past : suc (length xs) ≤ length (filter p xs) = rw f at h in
    let rest = length-filter p xs in
    absurd (omega (arith, past, rest)))
    (cases_Bool (p z))

-- where the first that passes is
pub point_is : {X : Type 0} (p : X → Bool) (xs : List X) (i : ℕ) → i ≤ length xs → AllWithin (λ y. p y ≡ false) xs 0 i → AllWithin (λ y. p y ≡ true) xs i (length xs) → i ≡ position_or_len p xs
point_is p [] zero l before after = refl
point_is p [] (suc i) l before after = absurd (omega arith)
point_is p (x ∷ xs) zero l before after =
    let t : p x ≡ true = after 0 x (omega arith) (omega arith) in
    sym (ap (λ b. cond (not b) (1 + position_or_len p xs) 0) t)
point_is p (x ∷ xs) (suc i) l before after =
    let f : p x ≡ false = before 0 x (omega arith) (omega arith) in
    let rest = point_is p xs i (omega arith) (λ k d a b. before (suc k) d (omega arith) (omega arith)) (λ k d a b. after (suc k) d (omega arith) (omega arith)) in
    let step : suc i ≡ 1 + position_or_len p xs = omega (arith, rest) in
    step ∙ sym (ap (λ b. cond (not b) (1 + position_or_len p xs) 0) f)

-- what a search in the first elements finds
pub found : {X V : Type 0} (value : X → V) (below : V → V → Bool) (v : V) (n : ℕ) (xs : List X) (i : ℕ) (x : X) → position (λ y. below (value y) v) (take n xs) ≡ Some i → x ≡ get_or xs i x → Member (map value xs) (value x) × (below (value x) v ≡ true)
found value below v n xs i x some is =
    let k = position-Some (λ y. below (value y) v) (take n xs) i x some in
    let same : get_or (take n xs) i x ≡ get_or xs i x = get_or-take n xs i x k.0 in
    let all = get_or-take_within n xs i k.0 in
    (Member-map_in value xs x (Member-get_or xs i x all (sym is)), subst (λ y. below (value y) v ≡ true) (same ∙ sym is) k.1)

module _ {X : Type 0} (grade : X → ℕ) where
  pub to_non_decreasing : (xs : List X) → AreRising grade xs → IsNonDecreasingBy grade xs
  to_non_decreasing [] h i j d l m = absurd (omega arith)
  to_non_decreasing (x ∷ xs) h zero zero d l m = omega arith
  to_non_decreasing (x ∷ xs) h zero (suc j) d l m = h.0 (get_or xs j d) (Member-get xs j d (omega arith))
  to_non_decreasing (x ∷ xs) h (suc i) zero d l m = absurd (omega arith)
  to_non_decreasing (x ∷ xs) h (suc i) (suc j) d l m = to_non_decreasing xs h.1 i j d (omega arith) (omega arith)

  pub AreRising-filter : (p : X → Bool) (xs : List X) → AreRising grade xs → AreRising grade (filter p xs)
  AreRising-filter p [] h = tt
  AreRising-filter p (x ∷ xs) h =
      let rest = AreRising-filter p xs h.1 in
      let here : (y : X) → Member (filter p xs) y → grade x ≤ grade y = λ y m. h.0 y (Member-filter_out p xs y m).0 in
      elim (p x) as (λ b. AreRising grade (cond b (x ∷ filter p xs) (filter p xs))) [ true ↦ (here, rest) | false ↦ rest ]

  pub AreRising-placed : (x : X) (xs : List X) → AreRising grade xs → AreRising grade (placed (λ y. ltb (grade x) (grade y)) x xs)
  AreRising-placed x [] h = (λ y m. absurd m, tt)
  AreRising-placed x (y ∷ ys) h =
      ⊎_elim {C = AreRising grade (placed (λ z. ltb (grade x) (grade z)) x (y ∷ ys))}
      (λ t.
      let less = ltb-true (grade x) (grade y) t in
      rw t ((
        λ z m. ⊎_elim {C = grade x ≤ grade z}
            (λ e. subst (λ q. grade x ≤ grade q) e (omega (arith, less)))
            (λ k. let far = h.0 z k in omega (arith, less, far)) m,
        h,
      )))
      (λ f.
      let least = ltb-false (grade x) (grade y) f in
      rw f ((
        λ z m. ⊎_elim {C = grade y ≤ grade z}
            (λ e. subst (λ q. grade y ≤ grade q) e least)
            (λ k. h.0 z k) (Member-placed_out (λ q. ltb (grade x) (grade q)) x ys z m),
        AreRising-placed x ys h.1,
      )))
      (cases_Bool (ltb (grade x) (grade y)))

  -- an element stands before the end of a grade, or has a greater grade
  pub reached : (top : ℕ) (xs : List X) → AreRising grade xs → (s : X) → Member xs s → Member (take (position_or_len (λ y. ltb top (grade y)) xs) xs) s ⊎ (top < grade s)
  reached top [] h s m = absurd m
  reached top (x ∷ xs) h s m =
      let p = λ (y : X). ltb top (grade y) in
      ⊎_elim {C = Member (take (position_or_len p (x ∷ xs)) (x ∷ xs)) s ⊎ (top < grade s)}
      (λ t.
      let past = ltb-true top (grade x) t in
      inr (⊎_elim {C = top < grade s} (λ e. subst (λ q. top < grade q) e past) (λ k. let far = h.0 s k in omega (arith, past, far)) m))
      (λ f.
      subst (λ n. Member (take n (x ∷ xs)) s ⊎ (top < grade s))
      (sym (ap (λ b. cond (not b) (1 + position_or_len p xs) 0) f))
      (rw one-add (⊎_elim {C = Member (x ∷ take (position_or_len p xs) xs) s ⊎ (top < grade s)} (λ e. inl (inl e)) (λ k. ⊎_elim (λ r. inl (inr r)) inr (reached top xs h.1 s k)) m)))
      (cases_Bool (p x))

  module _ {V : Type 0} (value : X → V) (below : V → V → Bool) (grade_of : V → ℕ) (laws : GradesOrder below grade_of) where
    pub AreGraded-filter : (p : X → Bool) (xs : List X) → AreGraded grade value grade_of xs → AreGraded grade value grade_of (filter p xs)
    AreGraded-filter p xs h x m = h x (Member-filter_out p xs x m).0

    pub AreGraded-placed : (g : X → Bool) (x : X) (xs : List X) → grade x ≡ grade_of (value x) → AreGraded grade value grade_of xs → AreGraded grade value grade_of (placed g x xs)
    AreGraded-placed g x xs own h y m = ⊎_elim {C = grade y ≡ grade_of (value y)} (λ e. subst (λ z. grade z ≡ grade_of (value z)) e own) (λ k. h y k) (Member-placed_out g x xs y m)

    -- what a value is at most has no lesser grade
    pub none_lesser : (top : ℕ) (v : V) → top ≡ grade_of v → (x : X) → grade x ≡ grade_of (value x) → (ltb (grade x) top || not (below v (value x))) ≡ not (below v (value x))
    none_lesser top v own x held =
        ⊎_elim {C = (ltb (grade x) top || not (below v (value x))) ≡ not (below v (value x))}
        (λ t. let k = laws v (value x) t in ap (λ b. b || not (below v (value x))) (le-ltb (grade x) top (omega (arith, k, own, held))))
        (λ f. rw f (or_true (ltb (grade x) top)))
        (cases_Bool (below v (value x)))

    -- what is at most a value has no greater grade
    pub none_found : (v : V) (xs : List X) → AreRising grade xs → AreGraded grade value grade_of xs
        → position (λ x. below (value x) v) (take (position_or_len (λ y. ltb (grade_of v) (grade y)) xs) xs) ≡ None
        → (w : V) → Member (map value xs) w → below w v ≡ false
    none_found v xs rising graded none w m =
        let k = Member-map_out value xs w m in
        let front = take (position_or_len (λ y. ltb (grade_of v) (grade y)) xs) xs in
        ⊎_elim {C = below w v ≡ false}
        (λ r. subst (λ z. below z v ≡ false) k.2 (Member-All (λ x. below (value x) v ≡ false) front k.0 (none_passes (λ x. below (value x) v) front none) r))
        (λ g. ⊎_elim {C = below w v ≡ false}
        (λ t. absurd (let low = laws w v t in let own = graded k.0 k.1 in let same = ap grade_of k.2 in omega (arith, g, low, own, same)))
        (λ f. f)
        (cases_Bool (below w v)))
        (reached (grade_of v) xs rising k.0 k.1)

    pub admitted : (g : X → Bool) (x : X) (xs : List X) → Admitted below (value x) (map value xs) (map value (placed g x (filter (λ y. not (below (value x) (value y))) xs)))
    admitted g x xs =
        let test = λ (y : X). not (below (value x) (value y)) in
        let rest = filter test xs in
        record {
          joins = Member-map_in value (placed g x rest) x (Member-placed_in g x rest x (inl refl));
          stays = λ w m f.
              let k = Member-map_out value xs w m in
              let passes : test k.0 ≡ true = ap not (ap (below (value x)) k.2 ∙ f) in
              subst (λ z. Member (map value (placed g x rest)) z) k.2
              (Member-map_in value (placed g x rest) k.0 (Member-placed_in g x rest k.0 (inr (Member-filter_in test xs k.0 k.1 passes))));
          among = λ w m.
              let k = Member-map_out value (placed g x rest) w m in
              ⊎_elim {C = (value x ≡ w) ⊎ (Member (map value xs) w × (below (value x) w ≡ false))}
              (λ e. inl (ap value e ∙ k.2))
              (λ r. let q = Member-filter_out test xs k.0 r in
              inr (subst (λ z. Member (map value xs) z) k.2 (Member-map_in value xs k.0 q.0), subst (λ z. below (value x) z ≡ false) k.2 (not-true (below (value x) (value k.0)) q.1)))
              (Member-placed_out g x rest k.0 k.1);
        }

-- one more in its place
pub put_same : {X V : Type 0} (value : X → V) (g : X → Bool) (x : X) (xs : List X) → HoldSame (value x ∷ map value xs) (map value (placed g x xs))
put_same value g x xs = record {
  forth = λ w m. ⊎_elim {C = Member (map value (placed g x xs)) w}
      (λ e. subst (λ z. Member (map value (placed g x xs)) z) e (Member-map_in value (placed g x xs) x (Member-placed_in g x xs x (inl refl))))
      (λ r. let k = Member-map_out value xs w r in
      subst (λ z. Member (map value (placed g x xs)) z) k.2 (Member-map_in value (placed g x xs) k.0 (Member-placed_in g x xs k.0 (inr k.1))))
      m;
  back = λ w m.
      let k = Member-map_out value (placed g x xs) w m in
      ⊎_elim {C = (value x ≡ w) ⊎ Member (map value xs) w}
      (λ e. inl (ap value e ∙ k.2))
      (λ r. inr (subst (λ z. Member (map value xs) z) k.2 (Member-map_in value xs k.0 r)))
      (Member-placed_out g x xs k.0 k.1);
}

-- one more at the end of one list, and before the other
pub more_same : {X V : Type 0} (value : X → V) (xs : List X) (x : X) (v : V) (old new : List V) → v ≡ value x → HoldSame (map value xs) old → HoldSame (v ∷ old) new → HoldSame (map value (xs ++ x ∷ [])) new
more_same value xs x v old new is same put = record {
  forth = λ w m.
      let k = Member-map_out value (xs ++ x ∷ []) w m in
      ⊎_elim {C = Member new w}
      (λ a. put.forth w (inr (same.forth w (subst (λ z. Member (map value xs) z) k.2 (Member-map_in value xs k.0 a)))))
      (⊎_elim {C = Member new w} (λ e. put.forth w (inl (is ∙ (ap value e ∙ k.2)))) (λ b. absurd b))
      (Member-append xs (x ∷ []) k.0 k.1);
  back = λ w m. ⊎_elim {C = Member (map value (xs ++ x ∷ [])) w}
      (λ e. subst (λ z. Member (map value (xs ++ x ∷ [])) z) (sym is ∙ e) (Member-map_in value (xs ++ x ∷ []) x (Member-append_right xs (x ∷ []) x (inl refl))))
      (λ r. let k = Member-map_out value xs w (same.back w r) in
      subst (λ z. Member (map value (xs ++ x ∷ [])) z) k.2 (Member-map_in value (xs ++ x ∷ []) k.0 (Member-append_left xs (x ∷ []) k.0 k.1)))
      (put.back w m);
}

-- entries and values that hold the same vectors still do after one more
pub joined_same : {V W : Type 0} (below : V → V → Bool) (g : V × W → Bool) (v : V) (w : W) (old : List (V × W)) (values after : List V)
    → HoldSame (map (λ e. e.0) old) values → Admitted below v values after
    → HoldSame (map (λ e. e.0) (placed g (v, w) (filter (λ e. not (below v e.0)) old))) after
joined_same {V} {W} below g v w old values after same admits =
    let test = λ (e : V × W). not (below v e.0) in
    let rest = filter test old in
    let new : V × W = (v, w) in
    record {
      forth = λ u m.
          let k = Member-map_out (λ (e : V × W). e.0) (placed g new rest) u m in
          ⊎_elim {C = Member after u}
          (λ e. subst (λ z. Member after z) (ap (λ p. p.0) e ∙ k.2) admits.joins)
          (λ r.
          let q = Member-filter_out test old k.0 r in
          subst (λ z. Member after z) k.2
          (admits.stays k.0.0 (same.forth k.0.0 (Member-map_in (λ (e : V × W). e.0) old k.0 q.0)) (not-true (below v k.0.0) q.1)))
          (Member-placed_out g new rest k.0 k.1);
      back = λ u m. ⊎_elim {C = Member (map (λ e. e.0) (placed g new rest)) u}
          (λ e. subst (λ z. Member (map (λ e. e.0) (placed g new rest)) z) e
          (Member-map_in (λ (e : V × W). e.0) (placed g new rest) new (Member-placed_in g new rest new (inl refl))))
          (λ r.
          let k = Member-map_out (λ (e : V × W). e.0) old u (same.back u r.0) in
          let passes : test k.0 ≡ true = ap not (ap (below v) k.2 ∙ r.1) in
          subst (λ z. Member (map (λ e. e.0) (placed g new rest)) z) k.2
          (Member-map_in (λ (e : V × W). e.0) (placed g new rest) k.0 (Member-placed_in g new rest k.0 (inr (Member-filter_in test old k.0 k.1 passes)))))
          (admits.among u m);
    }
