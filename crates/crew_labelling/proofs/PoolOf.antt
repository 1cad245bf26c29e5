-- The pool of a list of labels, made label by label: it rises, it is their pool, and its labels are of the list.
use Rattle.std.proofs.Common.{◌≡◌, ◌∙◌, ◌⊎◌, ℕ, Bool, true, false, cond, not, List, [], ◌∷◌, map, inl, inr, refl, sym, ap, subst, ⊎_elim, Ordering}
use Rattle.std.specs.Cmp.{IsTotalOrder}
use Rattle.std.specs.List.{filter, list_any}
use Rattle.std.specs.Ordering.{is_lt}
use Rattle.std.specs.declared.cmp.Ordering.TheVariants.{Less, Equal, Greater}
use Rattle.std.proofs.lemmas.Bool.{cases_Bool, false≢true, not-true, not_from_false}
use Rattle.crew_forgetful.specs.Forgetful.{IsPool, StandsFor}
use Rattle.crew_forgetful.proofs.Offers.{More, pool_beaten, pool_kept, same_pool}
use Rattle.crew_label.specs.Pools.{ArePoolOf, AreRising, stands_label}
use Rattle.crew_label.specs.Walks.{ranks_at_most, shown, walk_of}
use Rattle.crew_label.specs.declared.label.Label.{Label}
use Rattle.crew_label.specs.declared.label.Link.{Link}
use Rattle.crew_label.proofs.Interleaved.{listed_second}
use Rattle.crew_label.proofs.MergedPools.{ranks_order, ranks_total, stands_complete, stands_sound}
use Rattle.crew_label.proofs.RisingLists.{rising-filter}
use Rattle.crew_resource.specs.Entries.{placed}
use Rattle.crew_resource.specs.Members.{Each, Member}
use Rattle.crew_resource.specs.Resource.{OrderLaws}
use Rattle.crew_resource.proofs.Members.{Member-filter_in, Member-filter_out, Member-map_in, Member-map_out, list_any_false, list_any_true}
use Rattle.crew_resource.proofs.Values.{below_order}
use Rattle.crew_labelling.specs.Labellings.{offered, pool_of}

is_less : (o : Ordering) → is_lt o ≡ true → o ≡ Less
is_less Less e = refl
is_less Equal e = absurd (false≢true e)
is_less Greater e = absurd (false≢true e)

-- what stands in a list with one more in its place
placed_out : {X : Type 0} (p : X → Bool) (x : X) (xs : List X) (y : X) → Member (placed p x xs) y → (x ≡ y) ⊎ Member xs y
placed_out {X} p x [] y m = m
placed_out {X} p x (z ∷ zs) y m = by (p z) (placed_out p x zs y) m
  where
    by : (b : Bool) → (Member (placed p x zs) y → (x ≡ y) ⊎ Member zs y) → Member (cond b (x ∷ z ∷ zs) (z ∷ placed p x zs)) y → (x ≡ y) ⊎ Member (z ∷ zs) y
    by true rest k = k
    by false rest (inl e) = inr (inl e)
    by false rest (inr k) = ⊎_elim inl (λ j. inr (inr j)) (rest k)

placed_new : {X : Type 0} (p : X → Bool) (x : X) (xs : List X) → Member (placed p x xs) x
placed_new p x [] = inl refl
placed_new p x (z ∷ zs) = let rest = placed_new p x zs in elim (p z) as (λ b. Member (cond b (x ∷ z ∷ zs) (z ∷ placed p x zs)) x) [ true ↦ inl refl | false ↦ inr rest ]

placed_old : {X : Type 0} (p : X → Bool) (x : X) (xs : List X) (y : X) → Member xs y → Member (placed p x xs) y
placed_old p x [] y m = absurd m
placed_old p x (z ∷ zs) y (inl e) = elim (p z) as (λ b. Member (cond b (x ∷ z ∷ zs) (z ∷ placed p x zs)) y) [ true ↦ inr (inl e) | false ↦ inl e ]
placed_old p x (z ∷ zs) y (inr m) =
    let rest = placed_old p x zs y m in elim (p z) as (λ b. Member (cond b (x ∷ z ∷ zs) (z ∷ placed p x zs)) y) [ true ↦ inr (inr m) | false ↦ inr rest ]

placed_each : {X : Type 0} (P : X → Type 0) (p : X → Bool) (x : X) (xs : List X) → P x → Each P xs → Each P (placed p x xs)
placed_each P p x [] h k = (h, tt)
placed_each P p x (z ∷ zs) h k = let rest = placed_each P p x zs h k.1 in elim (p z) as (λ b. Each P (cond b (x ∷ z ∷ zs) (z ∷ placed p x zs))) [ true ↦ (h, k) | false ↦ (k.0, rest) ]

each_map : {X : Type 0} (P Q : X → Type 0) (xs : List X) → ((x : X) → P x → Q x) → Each P xs → Each Q xs
each_map P Q [] f h = tt
each_map P Q (x ∷ xs) f h = (f x h.0, each_map P Q xs f h.1)

module _ {V : Type 0} (below same : V → V → Bool) (cmp : V → V → Ordering) (trail : Link → List ℕ) where
  abbrev left : Label V → List (Label V) → List (Label V)
  left l pool = filter (λ m. not (stands_label below same trail l m)) pool

  abbrev joined : Label V → List (Label V) → List (Label V)
  joined l pool = placed (λ m. is_lt (cmp l.value m.value)) l (left l pool)

  abbrev is_beaten : Label V → List (Label V) → Bool
  is_beaten l pool = list_any (λ m. stands_label below same trail m l) pool

  by_offer : (P : List (Label V) → Type 0) (l : Label V) (pool : List (Label V)) → (is_beaten l pool ≡ true → P pool) → (is_beaten l pool ≡ false → P (joined l pool)) → P (offered below same cmp trail l pool)
  by_offer P l pool f g = by (is_beaten l pool) refl
    where
      by : (b : Bool) → is_beaten l pool ≡ b → P (cond b pool (joined l pool))
      by true e = f e
      by false e = g e

  joined_from : (l : Label V) (pool : List (Label V)) (m : Label V) → Member (joined l pool) m → (l ≡ m) ⊎ Member pool m
  joined_from l pool m k = ⊎_elim inl (λ j. inr (Member-filter_out (λ m. not (stands_label below same trail l m)) pool m j).0) (placed_out (λ m. is_lt (cmp l.value m.value)) l (left l pool) m k)

  -- a label of the pool is of the list
  pub pool_from : (ls : List (Label V)) (m : Label V) → Member (pool_of below same cmp trail ls) m → Member ls m
  pool_from [] m k = k
  pool_from (l ∷ ls) m k =
      let pool = pool_of below same cmp trail ls in
      by_offer (λ ps. Member ps m → Member (l ∷ ls) m) l pool
      (λ t j. inr (pool_from ls m j))
      (λ f j. ⊎_elim inl (λ i. inr (pool_from ls m i)) (joined_from l pool m j)) k

  module _ (order : OrderLaws cmp below) (total : IsTotalOrder cmp) (itself : (a : V) → same a a ≡ true)
      (between : (a b c : V) → below a b ≡ true → below b c ≡ true → same a c ≡ true → (same a b ≡ true) × (same b c ≡ true)) where
    rising_placed : (x : Label V) (xs : List (Label V)) → AreRising cmp xs → ((m : Label V) → Member xs m → x.value ≡ m.value → ⊥) → AreRising cmp (placed (λ m. is_lt (cmp x.value m.value)) x xs)
    rising_placed x [] r n = (tt, tt)
    rising_placed x (y ∷ ys) r n = by (is_lt (cmp x.value y.value)) refl (rising_placed x ys r.1 (λ m k. n m (inr k)))
      where
        by : (b : Bool) → is_lt (cmp x.value y.value) ≡ b → AreRising cmp (placed (λ m. is_lt (cmp x.value m.value)) x ys) → AreRising cmp (cond b (x ∷ y ∷ ys) (y ∷ placed (λ m. is_lt (cmp x.value m.value)) x ys))
        by true e rest =
            let first = is_less (cmp x.value y.value) e in
            ((first, each_map (λ m. cmp y.value m.value ≡ Less) (λ m. cmp x.value m.value ≡ Less) ys (λ m k. total.trans x.value y.value m.value first k) r.0), r)
        by false e rest =
            (placed_each (λ m. cmp y.value m.value ≡ Less) (λ m. is_lt (cmp x.value m.value)) x ys (listed_second cmp total order.exact x.value y.value e (n y (inl refl))) r.0, rest)

    abbrev Stand : V × List ℕ → V × List ℕ → Type 0
    Stand p q = StandsFor below same ranks_at_most p.0 p.1 q.0 q.1

    abbrev Stands : Label V → Label V → Type 0
    Stands a b = StandsFor below same ranks_at_most a.value (walk_of trail a.before) b.value (walk_of trail b.before)

    sound : (a b : Label V) → stands_label below same trail a b ≡ true → Stands a b
    sound a b e = stands_sound V (List ℕ) below same ranks_at_most a.value (walk_of trail a.before) b.value (walk_of trail b.before) e

    complete : (a b : Label V) → Stands a b → stands_label below same trail a b ≡ true
    complete a b h = stands_complete V (List ℕ) below same ranks_at_most a.value (walk_of trail a.before) b.value (walk_of trail b.before) h

    at_equal : (a b : Label V) → a.value ≡ b.value → ranks_at_most (walk_of trail a.before) (walk_of trail b.before) ≡ true → Stands a b
    at_equal a b e h = (subst (λ z. below a.value z ≡ true) e (order.reflexive a.value), λ s. h)

    -- no label of a pool that is left by one and lets it in has its value
    new_value : (l : Label V) (pool : List (Label V)) → is_beaten l pool ≡ false → (m : Label V) → Member (left l pool) m → l.value ≡ m.value → ⊥
    new_value l pool f m k e =
        let o = Member-filter_out (λ m. not (stands_label below same trail l m)) pool m k in
        ⊎_elim
        (λ h. false≢true (sym (not-true (stands_label below same trail l m) o.1) ∙ complete l m (at_equal l m e h)))
        (λ h. false≢true (sym (list_any_false (λ m. stands_label below same trail m l) pool f m o.0) ∙ complete m l (at_equal m l (sym e) h)))
        (ranks_total (walk_of trail l.before) (walk_of trail m.before))

    -- the pool rises
    pub pool_rises : (ls : List (Label V)) → AreRising cmp (pool_of below same cmp trail ls)
    pool_rises [] = tt
    pool_rises (l ∷ ls) =
        let pool = pool_of below same cmp trail ls in
        let rest = pool_rises ls in
        by_offer (AreRising cmp) l pool (λ t. rest)
        (λ f. rising_placed l (left l pool) (rising-filter cmp (λ m. not (stands_label below same trail l m)) pool rest) (new_value l pool f))

    abbrev Entries : List (Label V) → V → List ℕ → Type 0
    Entries ls v w = Member (map (shown trail) ls) (v, w)

    joined_pool : (C : V → List ℕ → Type 0) (l : Label V) (pool : List (Label V)) → IsPool below same ranks_at_most C (map (shown trail) pool) → is_beaten l pool ≡ false
        → IsPool below same ranks_at_most
        (More V (List ℕ) below same ranks_at_most (below_order order) ranks_order itself between C l.value (walk_of trail l.before)) (map (shown trail) (joined l pool))
    joined_pool C l pool i f =
        pool_kept V (List ℕ) below same ranks_at_most (below_order order) ranks_order itself between C (map (shown trail) pool) (map (shown trail) (joined l pool)) l.value (walk_of trail l.before) i
        none out in_old (Member-map_in (shown trail) (joined l pool) l (placed_new (λ m. is_lt (cmp l.value m.value)) l (left l pool)))
      where
        none : (x : V) (y : List ℕ) → Member (map (shown trail) pool) (x, y) → StandsFor below same ranks_at_most x y l.value (walk_of trail l.before) → ⊥
        none x y m h =
            let k = Member-map_out (shown trail) pool (x, y) m in
            let s : Stands k.0 l = subst (λ (p : V × List ℕ). Stand p (shown trail l)) (sym k.2) h in
            false≢true (sym (list_any_false (λ m. stands_label below same trail m l) pool f k.0 k.1) ∙ complete k.0 l s)

        out : (x : V) (y : List ℕ) → Member (map (shown trail) (joined l pool)) (x, y)
            → ((x ≡ l.value) × (y ≡ walk_of trail l.before)) ⊎ (Member (map (shown trail) pool) (x, y) × (StandsFor below same ranks_at_most l.value (walk_of trail l.before) x y → ⊥))
        out x y m =
            let k = Member-map_out (shown trail) (joined l pool) (x, y) m in
            ⊎_elim
            (λ e. inl (ap (λ (p : V × List ℕ). p.0) (sym k.2) ∙ ap (λ (z : Label V). z.value) (sym e), ap (λ (p : V × List ℕ). p.1) (sym k.2) ∙ ap (λ (z : Label V). walk_of trail z.before) (sym e)))
            (λ j.
            let o = Member-filter_out (λ m. not (stands_label below same trail l m)) pool k.0 j in
            inr (
              subst (λ (p : V × List ℕ). Member (map (shown trail) pool) p) k.2 (Member-map_in (shown trail) pool k.0 o.0),
              λ h.
                  let s : Stands l k.0 = subst (λ (p : V × List ℕ). Stand (shown trail l) p) (sym k.2) h in
                  false≢true (sym (not-true (stands_label below same trail l k.0) o.1) ∙ complete l k.0 s),
            ))
            (placed_out (λ m. is_lt (cmp l.value m.value)) l (left l pool) k.0 k.1)

        in_old : (x : V) (y : List ℕ) → Member (map (shown trail) pool) (x, y)
            → StandsFor below same ranks_at_most l.value (walk_of trail l.before) x y ⊎ Member (map (shown trail) (joined l pool)) (x, y)
        in_old x y m =
            let k = Member-map_out (shown trail) pool (x, y) m in
            ⊎_elim
            (λ t. inl (subst (λ (p : V × List ℕ). Stand (shown trail l) p) k.2 (sound l k.0 t)))
            (λ f. inr (subst (λ (p : V × List ℕ). Member (map (shown trail) (joined l pool)) p) k.2
            (Member-map_in (shown trail) (joined l pool) k.0 (placed_old (λ m. is_lt (cmp l.value m.value)) l (left l pool) k.0
            (Member-filter_in (λ m. not (stands_label below same trail l m)) pool k.0 k.1 (not_from_false (stands_label below same trail l k.0) f))))))
            (cases_Bool (stands_label below same trail l k.0))

    beaten_pool : (C : V → List ℕ → Type 0) (l : Label V) (pool : List (Label V)) → IsPool below same ranks_at_most C (map (shown trail) pool) → is_beaten l pool ≡ true
        → IsPool below same ranks_at_most
        (More V (List ℕ) below same ranks_at_most (below_order order) ranks_order itself between C l.value (walk_of trail l.before)) (map (shown trail) pool)
    beaten_pool C l pool i t =
        let k = list_any_true (λ m. stands_label below same trail m l) pool t in
        pool_beaten V (List ℕ) below same ranks_at_most (below_order order) ranks_order itself between C (map (shown trail) pool) l.value (walk_of trail l.before) i
        k.0.value (walk_of trail k.0.before) (Member-map_in (shown trail) pool k.0 k.1) (sound k.0 l k.2)

    -- and is that of all labels of the list
    pub pool_is : (ls : List (Label V)) → ArePoolOf below same trail (map (shown trail) ls) (pool_of below same cmp trail ls)
    pool_is [] = record { among = λ v w m. m; covers = λ x y m. absurd m; alone = λ v w x y m. absurd m }
    pool_is (l ∷ ls) =
        let pool = pool_of below same cmp trail ls in
        let rest = pool_is ls in
        by_offer (λ ps. ArePoolOf below same trail (map (shown trail) (l ∷ ls)) ps) l pool
        (λ t. turned pool (beaten_pool (Entries ls) l pool rest t))
        (λ f. turned (joined l pool) (joined_pool (Entries ls) l pool rest f))
      where
        turned : (ps : List (Label V)) → IsPool below same ranks_at_most
            (More V (List ℕ) below same ranks_at_most (below_order order) ranks_order itself between (Entries ls) l.value (walk_of trail l.before)) (map (shown trail) ps)
            → ArePoolOf below same trail (map (shown trail) (l ∷ ls)) ps
        turned ps = same_pool V (List ℕ) below same ranks_at_most (below_order order) ranks_order itself between
            (More V (List ℕ) below same ranks_at_most (below_order order) ranks_order itself between (Entries ls) l.value (walk_of trail l.before)) (λ v w. Member (map (shown trail) (l ∷ ls)) (v, w)) (map (shown trail) ps)
            (λ v w. ⊎_elim {C = Member (map (shown trail) (l ∷ ls)) (v, w)} inr (λ e. inl (ap (λ z. (z, walk_of trail l.before)) (sym e.0) ∙ ap (λ z. (v, z)) (sym e.1))))
            (λ v w. ⊎_elim {C = More V (List ℕ) below same ranks_at_most (below_order order) ranks_order itself between (Entries ls) l.value (walk_of trail l.before) v w}
            (λ e. inr (ap (λ (p : V × List ℕ). p.0) (sym e), ap (λ (p : V × List ℕ). p.1) (sym e))) inl)

-- walks that are the same leave the same pool
module _ {V : Type 0} (below same : V → V → Bool) (cmp : V → V → Ordering) (trail now : Link → List ℕ) where
  stands_alike : (a b : Label V) → walk_of now a.before ≡ walk_of trail a.before → walk_of now b.before ≡ walk_of trail b.before → stands_label below same now a b ≡ stands_label below same trail a b
  stands_alike a b p q = rw (p, q) refl

  any_alike : (f g : Label V → Bool) (ls : List (Label V)) → ((l : Label V) → Member ls l → f l ≡ g l) → list_any f ls ≡ list_any g ls
  any_alike f g [] h = refl
  any_alike f g (l ∷ ls) h = rw (h l (inl refl), any_alike f g ls (λ m k. h m (inr k))) refl

  filter_alike : (f g : Label V → Bool) (ls : List (Label V)) → ((l : Label V) → Member ls l → f l ≡ g l) → filter f ls ≡ filter g ls
  filter_alike f g [] h = refl
  filter_alike f g (l ∷ ls) h = rw (h l (inl refl), filter_alike f g ls (λ m k. h m (inr k))) refl

  offered_alike : (l : Label V) (pool : List (Label V)) → walk_of now l.before ≡ walk_of trail l.before → ((m : Label V) → Member pool m → walk_of now m.before ≡ walk_of trail m.before)
      → offered below same cmp now l pool ≡ offered below same cmp trail l pool
  offered_alike l pool here h =
      let any = any_alike (λ m. stands_label below same now m l) (λ m. stands_label below same trail m l) pool (λ m k. stands_alike m l (h m k) here) in
      let left = filter_alike (λ m. not (stands_label below same now l m)) (λ m. not (stands_label below same trail l m)) pool (λ m k. ap not (stands_alike l m here (h m k))) in
      rw (any, left) refl

  pub pool_alike : (ls : List (Label V)) → ((l : Label V) → Member ls l → walk_of now l.before ≡ walk_of trail l.before) → pool_of below same cmp now ls ≡ pool_of below same cmp trail ls
  pool_alike [] h = refl
  pool_alike (l ∷ ls) h =
      let rest = pool_alike ls (λ m k. h m (inr k)) in
      ap (offered below same cmp now l) rest
      ∙ offered_alike l (pool_of below same cmp trail ls) (h l (inl refl)) (λ m k. h m (inr (pool_from below same cmp trail ls m k)))
