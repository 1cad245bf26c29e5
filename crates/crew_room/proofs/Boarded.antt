-- Labels that board an item, where nothing of them lapses as they do: none may stand for another.
use Rattle.std.proofs.Common.{◌≡◌, ℕ, ◌+◌, Bool, true, List, [], ◌∷◌, ◌++◌, Option, Some, None, ℤ, pos, ◌+ℤ◌, length, map, inl, inr, refl, sym, ◌∙◌, ap, subst, Ordering}
use Rattle.std.specs.Prelude.{slice_get}
use Rattle.std.specs.Cmp.Lexicographic.{slice_cmp}
use Rattle.std.specs.List.{flat_map}
use Rattle.std.specs.Ordering.{is_le, nat_cmp, ordering_reverse, ordering_then}
use Rattle.std.specs.declared.cmp.Ordering.TheVariants.{Less, Equal, Greater}
use Rattle.std.proofs.lemmas.Cmp.{nat_cmp_total}
use Rattle.crew_resource.specs.Events.{labelled}
use Rattle.crew_resource.specs.Members.{Member}
use Rattle.crew_resource.specs.Resource.{OrderLaws}
use Rattle.crew_resource.proofs.Members.{Member-flat_map_out, Member-map_in, Member-map_out}
use Rattle.crew_resource.proofs.Values.{below_order}
use Rattle.crew_forgetful.specs.Forgetful.{IsPool, StandsFor}
use Rattle.crew_forgetful.proofs.Covered.{stands_refl}
use Rattle.crew_label.specs.Boarding.{LeadInto, boarded_from, linked}
use Rattle.crew_label.specs.Pools.{AreCounted, ArePoolOf, IsCounted}
use Rattle.crew_label.specs.Walks.{ranks_at_most, shown, walk_of}
use Rattle.crew_label.specs.declared.label.Label.{Label}
use Rattle.crew_label.specs.declared.label.Link.{Link}
use Rattle.crew_label.proofs.Boarded.{boarded_entries, one_longer}
use Rattle.crew_label.proofs.MergedPools.{ranks_order}
use Rattle.crew_label.proofs.Parted.{boarded-out}
use Rattle.crew_label.proofs.RisingLists.{each-member}
use Rattle.crew_label.proofs.RuleLaws.{as_long}
use Rattle.crew_label.proofs.WalkOrder.{cmp_longer}
use Rattle.crew_room.specs.Rooms.{HaveOwnValues}
use Rattle.crew_room.proofs.Joined.{apart-both}

labelled_out : {V W : Type 0} (o : Option V) (w : W) (v : V) (y : W) → Member (labelled o w) (v, y) → (o ≡ Some v) × (w ≡ y)
labelled_out None w v y h = absurd h
labelled_out (Some u) w v y (inl e) = (ap (λ p. Some p.0) e, ap (λ p. p.1) e)
labelled_out (Some u) w v y (inr h) = absurd h

some_same : {V : Type 0} (a b : V) → Some a ≡ Some b → a ≡ b
some_same a b e = (cc)

then_equal : (o e : Ordering) → e ≡ Equal → ordering_then o e ≡ o
then_equal Less e h = refl
then_equal Equal e h = h
then_equal Greater e h = refl

equal_itself : (o : Ordering) → o ≡ ordering_reverse o → o ≡ Equal
equal_itself Less e = absurd (let q : ⊥ = (cc) in q)
equal_itself Equal e = refl
equal_itself Greater e = absurd (let q : ⊥ = (cc) in q)

-- walks that are as long stand to each other as with one duty more
shorter : (p q : List ℕ) (d : ℕ) → length p ≡ length q → ranks_at_most (p ++ d ∷ []) (q ++ d ∷ []) ≡ true → ranks_at_most p q ≡ true
shorter p q d long h =
    sym (ap is_le (cmp_longer p q d d long ∙ then_equal (slice_cmp nat_cmp p q) (nat_cmp d d) (equal_itself (nat_cmp d d) (nat_cmp_total.antisymm d d)))) ∙ h

module _ {V : Type 0} (board : V → Option V) (duty rank : ℕ) (trail : Link → List ℕ) (leads : Link → Bool) (count : V → ℤ)
    (one_more : (v z : V) → board v ≡ Some z → count z ≡ count v +ℤ pos 1) where
  counted_as : (pool : List (Label V)) → LeadInto leads trail duty rank pool → (place : ℕ) (l : Label V) → slice_get pool place ≡ Some l → IsCounted count leads trail l
      → (o : Option V) → board l.value ≡ o → AreCounted count leads trail (linked o (record { duty = duty; place = place }))
  counted_as pool into place l at i None e m k = absurd k
  counted_as pool into place l at i (Some z) e m (inl q) = subst (IsCounted count leads trail) q record {
    leading = into.there place l at;
    counts = one_more l.value z e ∙ (ap (λ k. k +ℤ pos 1) i.counts ∙ (one_longer (walk_of trail l.before) rank ∙ ap (λ w. pos (length w)) (sym (into.walk place l at))));
  }
  counted_as pool into place l at i (Some z) e m (inr k) = absurd k

  -- what a label boards to counts its walk
  pub linked-counted : (pool : List (Label V)) → LeadInto leads trail duty rank pool → (place : ℕ) (l : Label V) → slice_get pool place ≡ Some l → IsCounted count leads trail l
      → AreCounted count leads trail (linked (board l.value) (record { duty = duty; place = place }))
  linked-counted pool into place l at i = counted_as pool into place l at i (board l.value) refl

module _ {V : Type 0} (cmp : V → V → Ordering) (below same : V → V → Bool) (order : OrderLaws cmp below) (board : V → Option V) (duty : ℕ) where
  -- boarding reflects that a value of the labels is at most another
  abbrev pub Reflects : List (Label V) → Type 0
  Reflects pool = (l m : Label V) (y z : V) → Member pool l → board l.value ≡ Some y → board m.value ≡ Some z → below y z ≡ true → below l.value m.value ≡ true

  linked-out : (o : Option V) (link : Link) (a : Label V) → Member (linked o link) a → o ≡ Some a.value
  linked-out None link a m = absurd m
  linked-out (Some v) link a (inl e) = ap (λ z. Some z.value) e
  linked-out (Some v) link a (inr m) = absurd m

  linked-apart : (o : Option V) (link : Link) → HaveOwnValues (linked o link)
  linked-apart None link = tt
  linked-apart (Some v) link = (tt, tt)

  boarded-apart-from : (n : ℕ) (pool : List (Label V)) → Reflects pool → HaveOwnValues pool → HaveOwnValues (boarded_from board duty n pool)
  boarded-apart-from n [] r h = tt
  boarded-apart-from n (l ∷ ls) r h =
      apart-both (linked (board l.value) (record { duty = duty; place = n })) (boarded_from board duty (n + 1) ls)
      (linked-apart (board l.value) (record { duty = duty; place = n }))
      (boarded-apart-from (n + 1) ls (λ a b y z m. r a b y z (inr m)) h.1)
      (λ a b m k e.
      let p = linked-out (board l.value) (record { duty = duty; place = n }) a m in
      let q = boarded-out board duty (n + 1) ls b k in
      let forth = r l q.0 a.value b.value (inl refl) p q.2 (subst (λ v. below a.value v ≡ true) e (order.reflexive a.value)) in
      let back = r q.0 l b.value a.value (inr q.1) q.2 p (subst (λ v. below v a.value ≡ true) e (order.reflexive a.value)) in
      each-member (λ x. l.value ≡ x.value → ⊥) ls q.0 h.0 q.1 (order.antisymmetric l.value q.0.value forth back))

  -- no value stands twice aboard
  pub boarded-apart : (pool : List (Label V)) → Reflects pool → HaveOwnValues pool → HaveOwnValues (boarded_from board duty 0 pool)
  boarded-apart pool r h = boarded-apart-from 0 pool r h

  module _ (itself : (a : V) → same a a ≡ true) (between : (a b c : V) → below a b ≡ true → below b c ≡ true → same a c ≡ true → (same a b ≡ true) × (same b c ≡ true))
      (keeps : (a b y z : V) → board a ≡ Some y → board b ≡ Some z → same y z ≡ same a b)
      (rank : ℕ) (trail : Link → List ℕ) (leads : Link → Bool) (count : V → ℤ) (tell : (a b : V) → same a b ≡ true → count a ≡ count b)
      (pool : List (Label V)) (into : LeadInto leads trail duty rank pool) (counts : AreCounted count leads trail pool) (reflects : Reflects pool)
      (candidates : List (V × List ℕ)) (i : ArePoolOf below same trail candidates pool) where
    abbrev aboard : V × List ℕ → List (V × List ℕ)
    aboard e = labelled (board e.0) (e.1 ++ rank ∷ [])

    -- labels of which one stands for the other once both have boarded
    alone-labels : (l m : Label V) (v x : V) (w y : List ℕ) → Member pool l → Member pool m → board l.value ≡ Some v → board m.value ≡ Some x
        → walk_of trail l.before ++ rank ∷ [] ≡ w → walk_of trail m.before ++ rank ∷ [] ≡ y → StandsFor below same ranks_at_most v w x y → (v ≡ x) × (w ≡ y)
    alone-labels l m v x w y ml mm bl bm wl wm s =
        let a = walk_of trail l.before in
        let b = walk_of trail m.before in
        let e = i.alone l.value a m.value b (Member-shown l ml) (Member-shown m mm) (
          reflects l m v x ml bl bm s.0,
          λ t.
              let long : length a ≡ length b = as_long (length a) (length b) (sym (counts l ml).counts ∙ (tell l.value m.value t ∙ (counts m mm).counts)) in
              shorter a b rank long (subst (λ z. ranks_at_most z (b ++ rank ∷ []) ≡ true) (sym wl) (subst (λ z. ranks_at_most w z ≡ true) (sym wm) (s.1 (keeps l.value m.value v x bl bm ∙ t)))),
        ) in (
          some_same v x (sym bl ∙ (ap board e.0 ∙ bm)),
          sym wl ∙ (ap (λ z. z ++ rank ∷ []) e.1 ∙ wm),
        )
      where
        Member-shown : (n : Label V) → Member pool n → Member (map (shown trail) pool) (shown trail n)
        Member-shown n k = Member-map_in (shown trail) pool n k

    alone-entries : (v : V) (w : List ℕ) (x : V) (y : List ℕ) → Member (flat_map aboard (map (shown trail) pool)) (v, w) → Member (flat_map aboard (map (shown trail) pool)) (x, y)
        → StandsFor below same ranks_at_most v w x y → (v ≡ x) × (w ≡ y)
    alone-entries v w x y m n s =
        let a = Member-flat_map_out aboard (map (shown trail) pool) (v, w) m in
        let b = Member-flat_map_out aboard (map (shown trail) pool) (x, y) n in
        let p = labelled_out (board a.0.0) (a.0.1 ++ rank ∷ []) v w a.2 in
        let q = labelled_out (board b.0.0) (b.0.1 ++ rank ∷ []) x y b.2 in
        let l = Member-map_out (shown trail) pool a.0 a.1 in
        let k = Member-map_out (shown trail) pool b.0 b.1 in
        alone-labels l.0 k.0 v x w y l.1 k.1 (ap (λ e. board e.0) l.2 ∙ p.0) (ap (λ e. board e.0) k.2 ∙ q.0) (ap (λ e. e.1 ++ rank ∷ []) l.2 ∙ p.1) (ap (λ e. e.1 ++ rank ∷ []) k.2 ∙ q.1) s

    entries-pool : IsPool below same ranks_at_most (λ v w. Member (flat_map aboard (map (shown trail) pool)) (v, w)) (flat_map aboard (map (shown trail) pool))
    entries-pool = record {
      among = λ v w m. m;
      covers = λ x y m. (x, y, m, stands_refl V (List ℕ) below same ranks_at_most (below_order order) ranks_order itself between x y);
      alone = alone-entries;
    }

    -- what boards is a pool as it stands
    pub boarded-pool : ArePoolOf below same trail (map (shown trail) (boarded_from board duty 0 pool)) (boarded_from board duty 0 pool)
    boarded-pool = subst (λ (es : List (V × List ℕ)). IsPool below same ranks_at_most (λ v w. Member es (v, w)) es) (sym (boarded_entries board duty leads trail rank pool into)) entries-pool
