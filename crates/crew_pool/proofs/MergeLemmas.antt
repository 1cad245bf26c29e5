-- Labels that meet a pool, and those that join it.
use Rattle.std.proofs.Common.{◌≡◌, ℕ, zero, suc, ◌<◌, Bool, true, false, cond, not, List, [], ◌∷◌, ◌++◌, length, set, map, get_or, Option, Some, None, ◌⊎◌, inl, inr, refl, sym, ◌∙◌, ap, subst, ⊎_elim, append_assoc, append-nil}
use Rattle.std.specs.Prelude.{slice_get, slice_set, ◌||◌, Result, Ok, Err, OnErr}
use Rattle.std.specs.List.{filter, list_any, position}
use Rattle.std.specs.Iterator.{Yields, YieldsFirst}
use Rattle.std.specs.List.Sorted.{IsPermutation}
use Rattle.std.proofs.lemmas.Bool.{cases_Bool, false≢true, not-true, not_from_false}
use Rattle.std.proofs.lemmas.Iterator.Consumers.{YieldsList-end, YieldsList-from_first, YieldsList-turn}
use Rattle.std.proofs.lemmas.List.Folds.{list_any_none}
use Rattle.std.proofs.lemmas.List.Quantifiers.{position-Some}
use Rattle.std.proofs.lemmas.List.Sorted.{IsPermutation-refl, IsPermutation-sym, IsPermutation-trans, list_any-IsPermutation}
use Rattle.std.proofs.lemmas.Option.{slice_get-get_or}
use Rattle.crew_resource.specs.Members.{Member}
use Rattle.crew_resource.proofs.Order.{IsOrder}
use Rattle.crew_resource.proofs.Members.{Member-append, Member-append_left, Member-append_right, Member-filter_in, Member-filter_out, list_any_true, list_any_false, Member-at, Member-get_or, Member-map_in, Member-map_out}
use Rattle.crew_pool.specs.Apart.{ApartFromAll, AreApart}
use Rattle.crew_pool.specs.Machinery.Meets.{is_free, vectors_of}
use Rattle.crew_pool.specs.LabelWalks.{IsPoolOf, lesser_label_walk, ranks_at_most, shown, walk_of_label}
use Rattle.crew_pool.specs.declared.label_walk.LabelWalk.{LabelWalk}
use Rattle.crew_resource.proofs.Lists.{map-slice_set, none_passes}
use Rattle.crew_pool.proofs.Listed.{map-itself}
use Rattle.crew_pool.proofs.Permuted.{AreApart-permuted, Member-permuted}
use Rattle.crew_pool.proofs.PoolLocal.{beaten_list, joined_list, tied_list}
use Rattle.crew_pool.proofs.LabelWalkLemmas.{lesser_label_walk_facts, ranks_order}

pub some_is : {X : Type 0} (a b : X) (o : Option X) → o ≡ Some a → o ≡ Some b → a ≡ b
some_is a b o p q = cc

-- an item and what it is, after its walk was lowered
pub same_label : {V : Type 0} (ws : List (List ℕ)) (walk : LabelWalk) (a b : V × LabelWalk) → a ≡ b → ◌≡◌ {A = V × LabelWalk} (a.0, lesser_label_walk ws a.1 walk) (b.0, lesser_label_walk ws b.1 walk)
same_label ws walk a b e = ap (λ x. (x.0, lesser_label_walk ws x.1 walk)) e

map-map_first : {V : Type 0} (ws : List (List ℕ)) (xs : List (V × LabelWalk)) → map (λ e. e.0) (map (shown ws) xs) ≡ vectors_of xs
map-map_first ws [] = refl
map-map_first ws (x ∷ xs) = ap (λ r. x.0 ∷ r) (map-map_first ws xs)

map-set : {X Y : Type 0} (f : X → Y) (xs : List X) (i : ℕ) (x : X) → map f (set xs i x) ≡ set (map f xs) i (f x)
map-set f [] i x = refl
map-set f (z ∷ zs) zero x = refl
map-set f (z ∷ zs) (suc i) x = ap (λ r. f z ∷ r) (map-set f zs i x)

slice_get-map : {X Y : Type 0} (f : X → Y) (xs : List X) (i : ℕ) (x : X) → slice_get xs i ≡ Some x → slice_get (map f xs) i ≡ Some (f x)
slice_get-map f [] i x e = absurd (let q : ⊥ = (cc) in q)
slice_get-map f (z ∷ zs) zero x e = let q : z ≡ x = (cc) in ap (λ y. Some (f y)) q
slice_get-map f (z ∷ zs) (suc i) x e = slice_get-map f zs i x e

pub Member-set_out : {X : Type 0} (xs : List X) (i : ℕ) (y x : X) → Member (set xs i y) x → Member xs x ⊎ (x ≡ y)
Member-set_out [] i y x m = absurd m
Member-set_out (z ∷ zs) zero y x (inl e) = inr (sym e)
Member-set_out (z ∷ zs) zero y x (inr m) = inl (inr m)
Member-set_out (z ∷ zs) (suc i) y x (inl e) = inl (inl e)
Member-set_out (z ∷ zs) (suc i) y x (inr m) = ⊎_elim (λ k. inl (inr k)) inr (Member-set_out zs i y x m)

-- a label after one was lowered was there, or is the one that met it
pub lowered_from : {V : Type 0} (xs : List (V × LabelWalk)) (i : ℕ) (l : V × LabelWalk) (was : LabelWalk) (ws : List (List ℕ)) (a : V × LabelWalk) → slice_get xs i ≡ Some (l.0, was)
    → Member (set xs i (l.0, lesser_label_walk ws was l.1)) a → Member xs a ⊎ (a ≡ l)
lowered_from xs i l was ws a g m =
    ⊎_elim inl
    (λ e. ⊎_elim
    (λ f. inl (subst (Member xs) (sym (e ∙ ap (λ t. (l.0, t)) f)) (Member-at xs i (l.0, was) g)))
    (λ f. inr (e ∙ ap (λ t. (l.0, t)) f))
    (lesser_label_walk_facts ws was l.1).0)
    (Member-set_out xs i (l.0, lesser_label_walk ws was l.1) a m)

filter-append : {X : Type 0} (q : X → Bool) (xs ys : List X) → filter q (xs ++ ys) ≡ filter q xs ++ filter q ys
filter-append q [] ys = refl
filter-append q (x ∷ xs) ys =
    elim (q x) as (λ b. cond b (x ∷ filter q (xs ++ ys)) (filter q (xs ++ ys)) ≡ cond b (x ∷ filter q xs) (filter q xs) ++ filter q ys)
    [ true ↦ ap (λ r. x ∷ r) (filter-append q xs ys) | false ↦ filter-append q xs ys ]

map-append : {X Y : Type 0} (f : X → Y) (xs ys : List X) → map f (xs ++ ys) ≡ map f xs ++ map f ys
map-append f [] ys = refl
map-append f (x ∷ xs) ys = ap (λ r. f x ∷ r) (map-append f xs ys)

-- the passing ones of one more element
map_filter-more : {X Y : Type 0} (f : X → Y) (q : X → Bool) (cs : List Y) (xs : List X) (x : X) → (cs ++ map f (filter q xs)) ++ map f (filter q (x ∷ [])) ≡ cs ++ map f (filter q (xs ++ x ∷ []))
map_filter-more f q cs xs x =
    append_assoc cs (map f (filter q xs)) (map f (filter q (x ∷ [])))
    ∙ ap (λ r. cs ++ r) (sym (map-append f (filter q xs) (filter q (x ∷ []))) ∙ ap (map f) (sym (filter-append q xs (x ∷ []))))

module _ {V : Type 0} (below : V → V → Bool) where
  ApartFromAll-filter : (q : V × LabelWalk → Bool) (a : V) (xs : List (V × LabelWalk)) → ApartFromAll below a (vectors_of xs) → ApartFromAll below a (vectors_of (filter q xs))
  ApartFromAll-filter q a [] h = tt
  ApartFromAll-filter q a (x ∷ xs) h =
      let rest = ApartFromAll-filter q a xs h.1 in
      elim (q x) as (λ b. ApartFromAll below a (vectors_of (cond b (x ∷ filter q xs) (filter q xs)))) [ true ↦ (h.0, rest) | false ↦ rest ]

  AreApart-filter : (q : V × LabelWalk → Bool) (xs : List (V × LabelWalk)) → AreApart below (vectors_of xs) → AreApart below (vectors_of (filter q xs))
  AreApart-filter q [] h = tt
  AreApart-filter q (x ∷ xs) h =
      let rest = AreApart-filter q xs h.1 in
      let here = ApartFromAll-filter q x.0 xs h.0 in
      elim (q x) as (λ b. AreApart below (vectors_of (cond b (x ∷ filter q xs) (filter q xs)))) [ true ↦ (here, rest) | false ↦ rest ]

  ApartFromAll-append : (a : V) (xs ys : List (V × LabelWalk)) → ApartFromAll below a (vectors_of xs) → ((y : V × LabelWalk) → Member ys y → (below a y.0 ≡ false) × (below y.0 a ≡ false)) → ApartFromAll below a (vectors_of (xs ++ ys))
  ApartFromAll-append a [] [] h out = tt
  ApartFromAll-append a [] (y ∷ ys) h out = (out y (inl refl), ApartFromAll-append a [] ys tt (λ z m. out z (inr m)))
  ApartFromAll-append a (x ∷ xs) ys h out = (h.0, ApartFromAll-append a xs ys h.1 out)

  pub AreApart-append : (xs ys : List (V × LabelWalk)) → AreApart below (vectors_of xs) → AreApart below (vectors_of ys) → ((x y : V × LabelWalk) → Member xs x → Member ys y → (below x.0 y.0 ≡ false) × (below y.0 x.0 ≡ false)) → AreApart below (vectors_of (xs ++ ys))
  AreApart-append [] ys h k out = k
  AreApart-append (x ∷ xs) ys h k out = (ApartFromAll-append x.0 xs ys h.0 (λ y m. out x y (inl refl) m), AreApart-append xs ys h.1 k (λ a b m n. out a b (inr m) n))

  -- the labels of a merged pool are apart
  pub merged_apart : (before xs list : List (V × LabelWalk)) → IsPermutation (vectors_of before) (vectors_of xs) → AreApart below (vectors_of xs) → AreApart below (vectors_of list)
      → AreApart below (vectors_of (filter (λ e. not (list_any (λ l. below l.0 e.0) (filter (is_free below (vectors_of before)) list))) xs ++ filter (is_free below (vectors_of before)) list))
  merged_apart before xs list same h k =
      let free = is_free below (vectors_of before) in
      let joins = filter free list in
      let stays = λ (e : V × LabelWalk). not (list_any (λ l. below l.0 e.0) joins) in
      AreApart-append (filter stays xs) joins (AreApart-filter stays xs h) (AreApart-filter free list k)
      (λ x y m n.
      let p = Member-filter_out stays xs x m in
      let q = Member-filter_out free list y n in
      let there : Member (vectors_of before) x.0 = Member-permuted (vectors_of xs) (vectors_of before) (IsPermutation-sym (vectors_of before) (vectors_of xs) same) x.0 (Member-map_in (λ z. z.0) xs x p.0) in (
        list_any_false (λ u. below u y.0) (vectors_of before) (not-true (list_any (λ u. below u y.0) (vectors_of before)) q.1) x.0 there,
        list_any_false (λ l. below l.0 x.0) joins (not-true (list_any (λ l. below l.0 x.0) joins) p.1) y n,
      ))

  -- the same labels stay free in any order
  pub is_free-permuted : (us vs : List V) (l : V × LabelWalk) → IsPermutation us vs → is_free below us l ≡ is_free below vs l
  is_free-permuted us vs l p = ap not (list_any-IsPermutation (λ u. below u l.0) us vs p)

  any_map : (v : V) (ys : List (V × LabelWalk)) → list_any (λ u. below u v) (vectors_of ys) ≡ list_any (λ e. below e.0 v) ys
  any_map v [] = refl
  any_map v (y ∷ ys) = ap (λ r. below y.0 v || r) (any_map v ys)

  -- no label is at most it
  pub free_none : (xs : List (V × LabelWalk)) (l : V × LabelWalk) → position (λ e. below e.0 l.0) xs ≡ None → is_free below (vectors_of xs) l ≡ true
  free_none xs l none =
      let all = none_passes (λ e. below e.0 l.0) xs none in
      ap not (any_map l.0 xs ∙ list_any_none (λ e. below e.0 l.0) xs all)

  -- a label is at most it
  pub free_some : (xs : List (V × LabelWalk)) (l : V × LabelWalk) (i : ℕ) → position (λ e. below e.0 l.0) xs ≡ Some i → is_free below (vectors_of xs) l ≡ false
  free_some xs l i p =
      let k = position-Some (λ e. below e.0 l.0) xs i l p in
      let e = get_or xs i l in
      let there : Member (vectors_of xs) e.0 = Member-map_in (λ x. x.0) xs e (Member-at xs i e (slice_get-get_or xs i l k.0)) in
      ⊎_elim {C = is_free below (vectors_of xs) l ≡ false} (λ t. ap not t) (λ f. absurd (false≢true (sym (list_any_false (λ u. below u l.0) (vectors_of xs) f e.0 there) ∙ k.1))) (cases_Bool (list_any (λ u. below u l.0) (vectors_of xs)))

  -- the label at the place that was found is at most it
  pub found_lower : (xs : List (V × LabelWalk)) (l : V × LabelWalk) (i : ℕ) → position (λ e. below e.0 l.0) xs ≡ Some i → (held : V × LabelWalk) → slice_get xs i ≡ Some held → below held.0 l.0 ≡ true
  found_lower xs l i p held g =
      let k = position-Some (λ e. below e.0 l.0) xs i l p in
      subst (λ (z : V × LabelWalk). below z.0 l.0 ≡ true) (some_is (get_or xs i l) held (slice_get xs i) (slice_get-get_or xs i l k.0) g) k.1

  module _ (order : IsOrder below) (ws : List (List ℕ)) where
    -- its vector is there: the lesser walk stays
    pub tied_local : (xs : List (V × LabelWalk)) (i : ℕ) (v : V) (walk was : LabelWalk) (cs : List (V × List ℕ)) → AreApart below (vectors_of xs) → slice_get xs i ≡ Some (v, was)
        → IsPoolOf below cs (map (shown ws) xs) → IsPoolOf below (cs ++ (v, walk_of_label ws walk) ∷ []) (map (shown ws) (set xs i (v, lesser_label_walk ws was walk)))
    tied_local xs i v walk was cs apart g h =
        let now = lesser_label_walk ws was walk in
        let facts = lesser_label_walk_facts ws was walk in
        subst (λ es. IsPoolOf below (cs ++ (v, walk_of_label ws walk) ∷ []) es) (sym (map-set (shown ws) xs i (v, now)))
        (tied_list V (List ℕ) below ranks_at_most order ranks_order cs (map (shown ws) xs) i v (walk_of_label ws was) (walk_of_label ws walk) (walk_of_label ws now)
        (subst (AreApart below) (sym (map-map_first ws xs)) apart) h (slice_get-map (shown ws) xs i (v, was) g)
        (⊎_elim (λ e. inl (ap (walk_of_label ws) e)) (λ e. inr (ap (walk_of_label ws) e)) facts.0) facts.1 facts.2)

    -- a label beats it
    pub beaten_local : (xs : List (V × LabelWalk)) (l e : V × LabelWalk) (cs : List (V × List ℕ)) → Member xs e → below e.0 l.0 ≡ true → below l.0 e.0 ≡ false
        → IsPoolOf below cs (map (shown ws) xs) → IsPoolOf below (cs ++ shown ws l ∷ []) (map (shown ws) xs)
    beaten_local xs l e cs m t f h =
        beaten_list V (List ℕ) below ranks_at_most order ranks_order cs (map (shown ws) xs) l.0 (walk_of_label ws l.1) (shown ws e) h (Member-map_in (shown ws) xs e m)
        (t, λ q. false≢true (sym f ∙ (ap (below l.0) q ∙ order.reflexive l.0)))

    -- the free ones join, and the labels that they are at most go
    pub merged_local : (before xs list : List (V × LabelWalk)) (cs : List (V × List ℕ)) → IsPermutation (vectors_of before) (vectors_of xs) → AreApart below (vectors_of list)
        → IsPoolOf below (cs ++ map (shown ws) (filter (λ l. not (is_free below (vectors_of before) l)) list)) (map (shown ws) xs)
        → IsPoolOf below (cs ++ map (shown ws) list) (map (shown ws) (filter (λ e. not (list_any (λ l. below l.0 e.0) (filter (is_free below (vectors_of before)) list))) xs ++ filter (is_free below (vectors_of before)) list))
    merged_local before xs list cs same apart h =
        let free = is_free below (vectors_of before) in
        let met = filter (λ l. not (free l)) list in
        let joins = filter free list in
        let stays = λ (e : V × LabelWalk). not (list_any (λ l. below l.0 e.0) joins) in
        joined_list V (List ℕ) below ranks_at_most order ranks_order cs (map (shown ws) met) (map (shown ws) list) (map (shown ws) xs) (map (shown ws) joins) (map (shown ws) (filter stays xs ++ joins))
        h
        (subst (AreApart below) (sym (map-map_first ws joins)) (AreApart-filter free list apart))
        (λ x s m n.
        let p = Member-map_out (shown ws) xs x m in
        let q = Member-map_out (shown ws) joins s n in
        let k = Member-filter_out free list q.0 q.1 in
        let there : Member (vectors_of before) p.0.0 = Member-permuted (vectors_of xs) (vectors_of before) (IsPermutation-sym (vectors_of before) (vectors_of xs) same) p.0.0 (Member-map_in (λ z. z.0) xs p.0 p.1) in
        let none = list_any_false (λ u. below u q.0.0) (vectors_of before) (not-true (list_any (λ u. below u q.0.0) (vectors_of before)) k.1) p.0.0 there in
        subst (λ (z : V × List ℕ). below z.0 s.0 ≡ false) p.2 (subst (λ (z : V × List ℕ). below p.0.0 z.0 ≡ false) q.2 none))
        (λ x m.
        let p = Member-map_out (shown ws) list x m in
        ⊎_elim {C = Member (map (shown ws) met) x ⊎ Member (map (shown ws) joins) x}
        (λ t. inr (subst (Member (map (shown ws) joins)) p.2 (Member-map_in (shown ws) joins p.0 (Member-filter_in free list p.0 p.1 t))))
        (λ f. inl (subst (Member (map (shown ws) met)) p.2 (Member-map_in (shown ws) met p.0 (Member-filter_in (λ l. not (free l)) list p.0 p.1 (not_from_false (free p.0) f)))))
        (cases_Bool (free p.0)))
        (λ x m.
        let p = Member-map_out (shown ws) met x m in
        subst (Member (map (shown ws) list)) p.2 (Member-map_in (shown ws) list p.0 (Member-filter_out (λ l. not (free l)) list p.0 p.1).0))
        (λ x m.
        let p = Member-map_out (shown ws) joins x m in
        subst (Member (map (shown ws) list)) p.2 (Member-map_in (shown ws) list p.0 (Member-filter_out free list p.0 p.1).0))
        (λ x m.
        let p = Member-map_out (shown ws) (filter stays xs ++ joins) x m in
        ⊎_elim
        (λ l.
        let k = Member-filter_out stays xs p.0 l in
        inl (
          subst (Member (map (shown ws) xs)) p.2 (Member-map_in (shown ws) xs p.0 k.0),
          λ s n.
              let q = Member-map_out (shown ws) joins s n in
              let none = list_any_false (λ l. below l.0 p.0.0) joins (not-true (list_any (λ l. below l.0 p.0.0) joins) k.1) q.0 q.1 in
              subst (λ (z : V × List ℕ). below s.0 z.0 ≡ false) p.2 (subst (λ (z : V × List ℕ). below z.0 p.0.0 ≡ false) q.2 none),
        ))
        (λ r. inr (subst (Member (map (shown ws) joins)) p.2 (Member-map_in (shown ws) joins p.0 r)))
        (Member-append (filter stays xs) joins p.0 p.1))
        (λ x m.
        let p = Member-map_out (shown ws) xs x m in
        ⊎_elim {C = ((s : V × List ℕ) × Member (map (shown ws) joins) s × (below s.0 x.0 ≡ true)) ⊎ Member (map (shown ws) (filter stays xs ++ joins)) x}
        (λ t.
        let k = list_any_true (λ l. below l.0 p.0.0) joins t in
        inl (shown ws k.0, Member-map_in (shown ws) joins k.0 k.1, subst (λ (z : V × List ℕ). below k.0.0 z.0 ≡ true) p.2 k.2))
        (λ f. inr (subst (Member (map (shown ws) (filter stays xs ++ joins))) p.2 (Member-map_in (shown ws) (filter stays xs ++ joins) p.0 (Member-append_left (filter stays xs) joins p.0 (Member-filter_in stays xs p.0 p.1 (not_from_false (list_any (λ l. below l.0 p.0.0) joins) f))))))
        (cases_Bool (list_any (λ l. below l.0 p.0.0) joins)))
        (λ x m.
        let p = Member-map_out (shown ws) joins x m in
        subst (Member (map (shown ws) (filter stays xs ++ joins))) p.2 (Member-map_in (shown ws) (filter stays xs ++ joins) p.0 (Member-append_right (filter stays xs) joins p.0 p.1)))

-- of two vectors of which each is at most the other the held label has the newcomer's
pub tied_at : {V : Type 0} (below : V → V → Bool) → IsOrder below → (xs : List (V × LabelWalk)) (i : ℕ) (l : V × LabelWalk) → i < length xs → ((held : V × LabelWalk) → slice_get xs i ≡ Some held → below held.0 l.0 ≡ true)
    → (b : Bool) → ((held : V × LabelWalk) → slice_get xs i ≡ Some held → b ≡ below l.0 held.0) → b ≡ true → (was : LabelWalk) × (slice_get xs i ≡ Some (l.0, was))
tied_at below order xs i l within lower b reached t =
    let e = get_or xs i l in
    let here = slice_get-get_or xs i l within in
    (e.1, here ∙ ap (λ z. Some (z, e.1)) (order.antisymmetric e.0 l.0 (lower e here) (sym (reached e here) ∙ t)))

-- lowering a walk leaves the vectors
pub lowered_vectors : {V : Type 0} (xs ys : List (V × LabelWalk)) (i : ℕ) (v : V) (was now : LabelWalk) → slice_get xs i ≡ Some (v, was) → ys ≡ slice_set xs i (v, now) → vectors_of ys ≡ vectors_of xs
lowered_vectors xs ys i v was now g e = ap vectors_of e ∙ map-slice_set (λ l. l.0) xs i (v, was) (v, now) g refl

-- what holds anyway holds where there is an error
pub on_err : {T E P : Type 0} (r : Result T E) → P → OnErr r P
on_err (Ok x) p = tt
on_err (Err e) p = p

-- of the labels so far the free ones wait, and the others met the pool
pub record HasMet {V : Type 0} (below : V → V → Bool) (ws : List (List ℕ)) (before all sofar now waits : List (V × LabelWalk)) : Type 0 where
  pub vectors : IsPermutation (vectors_of before) (vectors_of now)
  pub from : (a : V × LabelWalk) → Member now a → Member before a ⊎ Member all a
  pub free : waits ≡ filter (is_free below (vectors_of before)) sofar
  pub local : (cs : List (V × List ℕ)) → IsPoolOf below cs (map (shown ws) before) → IsPoolOf below (cs ++ map (shown ws) (filter (λ x. not (is_free below (vectors_of before) x)) sofar)) (map (shown ws) now)

module _ {V : Type 0} (below : V → V → Bool) (ws : List (List ℕ)) (before all : List (V × LabelWalk)) where
  -- none has met it yet
  pub met_none : (waits : List (V × LabelWalk)) → waits ≡ [] → HasMet below ws before all [] before waits
  met_none waits none =
      record {
        vectors = IsPermutation-refl (vectors_of before);
        from = λ a m. inl m;
        free = none;
        local = λ cs h. subst (λ es. IsPoolOf below es (map (shown ws) before)) (sym (append-nil cs)) h;
      }

  -- one more meets it
  pub met_more : (sofar now waits : List (V × LabelWalk)) → HasMet below ws before all sofar now waits → (l : V × LabelWalk) → Member all l → (next wait : List (V × LabelWalk)) → IsPermutation (vectors_of now) (vectors_of next)
      → ((a : V × LabelWalk) → Member next a → Member now a ⊎ (a ≡ l)) → wait ≡ waits ++ filter (is_free below (vectors_of now)) (l ∷ [])
      → ((cs : List (V × List ℕ)) → IsPoolOf below cs (map (shown ws) now) → IsPoolOf below (cs ++ map (shown ws) (filter (λ x. not (is_free below (vectors_of now) x)) (l ∷ []))) (map (shown ws) next))
      → HasMet below ws before all (sofar ++ l ∷ []) next wait
  met_more sofar now waits h l there next wait same come joins meets =
      let vs = vectors_of before in
      let us = vectors_of now in
      let free = is_free below vs in
      let stays : is_free below us l ≡ free l = sym (is_free-permuted below vs us l h.vectors) in
      record {
        vectors = IsPermutation-trans vs us (vectors_of next) h.vectors same;
        from = λ a m. ⊎_elim (h.from a) (λ q. inr (subst (Member all) (sym q) there)) (come a m);
        free = joins ∙ (ap (λ b. waits ++ cond b (l ∷ []) []) stays ∙ (ap (λ r. r ++ filter free (l ∷ [])) h.free ∙ sym (filter-append free sofar (l ∷ []))));
        local = λ cs k.
            subst (λ es. IsPoolOf below es (map (shown ws) next))
            (ap (λ b. (cs ++ map (shown ws) (filter (λ x. not (free x)) sofar)) ++ map (shown ws) (cond (not b) (l ∷ []) [])) stays ∙ map_filter-more (shown ws) (λ x. not (free x)) cs sofar l)
            (meets (cs ++ map (shown ws) (filter (λ x. not (free x)) sofar)) (h.local cs k));
      }

  -- all have met it, and those that wait join
  pub met_all : (order : IsOrder below) (sofar now waits : List (V × LabelWalk)) → HasMet below ws before all sofar now waits → sofar ≡ all → AreApart below (vectors_of before) → AreApart below (vectors_of all)
      → (after : List (V × LabelWalk)) → after ≡ filter (λ e. not (list_any (λ l. below l.0 e.0) waits)) now ++ waits
      → ((cs : List (V × List ℕ)) → IsPoolOf below cs (map (shown ws) before) → IsPoolOf below (cs ++ map (shown ws) all) (map (shown ws) after))
      × AreApart below (vectors_of after)
      × ((a : V × LabelWalk) → Member after a → Member before a ⊎ Member all a)
  met_all order sofar now waits h whole apart k after is =
      let free = is_free below (vectors_of before) in
      let joins = filter free all in
      let stays = λ (e : V × LabelWalk). not (list_any (λ l. below l.0 e.0) joins) in
      let merged : after ≡ filter stays now ++ joins = is ∙ ap (λ (w : List (V × LabelWalk)). filter (λ e. not (list_any (λ l. below l.0 e.0) w)) now ++ w) (h.free ∙ ap (filter free) whole) in (
        λ cs i.
            subst (λ (es : List (V × LabelWalk)). IsPoolOf below (cs ++ map (shown ws) all) (map (shown ws) es)) (sym merged)
            (merged_local below order ws before now all cs h.vectors k
            (subst (λ (es : List (V × LabelWalk)). IsPoolOf below (cs ++ map (shown ws) (filter (λ x. not (free x)) es)) (map (shown ws) now)) whole (h.local cs i))),
        subst (λ (es : List (V × LabelWalk)). AreApart below (vectors_of es)) (sym merged)
            (merged_apart below before now all h.vectors (AreApart-permuted below order.reflexive (vectors_of before) (vectors_of now) h.vectors apart) k),
        λ a m. ⊎_elim (λ p. h.from a (Member-filter_out stays now a p).0) (λ q. inr (Member-filter_out free all a q).0) (Member-append (filter stays now) joins a (subst (λ (es : List (V × LabelWalk)). Member es a) merged m)),
      )

-- what an iterator over a list yields: each is in the list, and at its end they are the list
module _ {X : Type 0} (all s : List X) (starts : s ≡ all) (yielded t : List X) (by : Yields (YieldsFirst (λ l. l)) s yielded t) (r : Option X) (u : List X) (steps : YieldsFirst (λ l. l) t r u) where
  pub yielded_there : (x : X) → r ≡ Some x → Member all x
  yielded_there x is =
      let turn = YieldsList-turn (YieldsList-from_first (λ x. x) (λ l. l) all starts) yielded t by r u x is steps in
      Member-get_or all (length yielded) x turn.0 (sym turn.1)

  pub yielded_all : r ≡ None → yielded ≡ all
  yielded_all is = sym (map-itself yielded) ∙ (YieldsList-end (YieldsList-from_first (λ x. x) (λ l. l) all starts) yielded t by r u is steps).0
