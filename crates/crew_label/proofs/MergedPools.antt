-- The pool of two pools: of each the labels for which none of the other may stand.
use Rattle.std.proofs.Common.{◌≡◌, ℕ, Bool, true, false, not, List, ◌++◌, ◌||◌, ◌⊎◌, map, inl, inr, Ordering, refl, sym, ◌∙◌, ap, subst, ⊎_elim}
use Rattle.std.specs.List.{filter, list_any}
use Rattle.std.specs.Cmp.Lexicographic.{slice_cmp}
use Rattle.std.specs.Ordering.{is_le, nat_cmp, ordering_reverse}
use Rattle.std.specs.declared.cmp.Ordering.TheVariants.{Less, Equal, Greater}
use Rattle.std.proofs.lemmas.Bool.{and_from, and_parts, cases_Bool, false≢true, not-true, not_from_false}
use Rattle.std.proofs.lemmas.Cmp.{lists_total, nat_cmp_total}
use Rattle.std.proofs.lemmas.Map.Lookups.{exact_unsigned}
use Rattle.crew_resource.specs.Members.{Member}
use Rattle.crew_resource.proofs.ListOrder.{at_most_order, lists_exact}
use Rattle.crew_resource.proofs.Members.{Member-append, Member-append_left, Member-append_right, Member-filter_in, Member-filter_out, Member-map_in, Member-map_out, list_any_false, list_any_true}
use Rattle.crew_resource.proofs.Order.{IsOrder}
use Rattle.crew_forgetful.specs.Forgetful.{IsPool, StandsFor, stands}
use Rattle.crew_forgetful.proofs.Covered.{pool_merge, stands_refl, stands_trans}
use Rattle.crew_forgetful.proofs.Offers.{same_pool}
use Rattle.crew_label.specs.Walks.{ranks_at_most, shown, walk_of}
use Rattle.crew_label.specs.Pools.{ArePoolOf, AreRising, stands_label}
use Rattle.crew_label.specs.declared.label.Label.{Label}
use Rattle.crew_label.specs.declared.label.Link.{Link}
use Rattle.crew_label.proofs.RisingLists.{rising-filter}

pub ranks_order : IsOrder ranks_at_most
ranks_order = at_most_order (slice_cmp nat_cmp) (lists_total nat_cmp_total) (lists_exact nat_cmp exact_unsigned)

pub stands_sound : (V W : Type 0) (le same : V → V → Bool) (wle : W → W → Bool) (v : V) (w : W) (x : V) (y : W) → stands le same wle v w x y ≡ true → StandsFor le same wle v w x y
stands_sound V W le same wle v w x y e =
    let k = and_parts (le v x) (not (same v x) || wle w y) e in
    (k.0, λ s. let rest : (false || wle w y) ≡ true = subst (λ z. (not z || wle w y) ≡ true) s k.1 in rest)

pub stands_complete : (V W : Type 0) (le same : V → V → Bool) (wle : W → W → Bool) (v : V) (w : W) (x : V) (y : W) → StandsFor le same wle v w x y → stands le same wle v w x y ≡ true
stands_complete V W le same wle v w x y h = and_from (le v x) (not (same v x) || wle w y) h.0
    (⊎_elim (λ t. rw t (h.1 t)) (λ f. rw f refl) (cases_Bool (same v x)))

module _ {V : Type 0} (le same : V → V → Bool) (trail : Link → List ℕ) (order : IsOrder le) (same_itself : (a : V) → same a a ≡ true)
    (same_between : (a b c : V) → le a b ≡ true → le b c ≡ true → same a c ≡ true → (same a b ≡ true) × (same b c ≡ true)) where
  -- of values with their walks
  abbrev pub Stand : V × List ℕ → V × List ℕ → Type 0
  Stand p q = StandsFor le same ranks_at_most p.0 p.1 q.0 q.1

  abbrev pub Stands : Label V → Label V → Type 0
  Stands a b = Stand (shown trail a) (shown trail b)

  pub sound : (a b : Label V) → stands_label le same trail a b ≡ true → Stands a b
  sound a b e = stands_sound V (List ℕ) le same ranks_at_most a.value (walk_of trail a.before) b.value (walk_of trail b.before) e

  pub complete : (a b : Label V) → Stands a b → stands_label le same trail a b ≡ true
  complete a b h = stands_complete V (List ℕ) le same ranks_at_most a.value (walk_of trail a.before) b.value (walk_of trail b.before) h

  then_stands : (a b c : Label V) → Stands a b → Stands b c → Stands a c
  then_stands a b c h k = stands_trans V (List ℕ) le same ranks_at_most order ranks_order same_itself same_between a.value (walk_of trail a.before) b.value (walk_of trail b.before) c.value (walk_of trail c.before) h k

  itself : (a : Label V) → Stands a a
  itself a = stands_refl V (List ℕ) le same ranks_at_most order ranks_order same_itself same_between a.value (walk_of trail a.before)

  -- the labels of a list for which none of another may stand
  abbrev pub free_of : List (Label V) → List (Label V) → List (Label V)
  free_of others list = filter (λ m. not (list_any (λ l. stands_label le same trail l m) others)) list

  pub free_out : (others list : List (Label V)) (m : Label V) → Member (free_of others list) m → Member list m × ((l : Label V) → Member others l → Stands l m → ⊥)
  free_out others list m h =
      let k = Member-filter_out (λ m. not (list_any (λ l. stands_label le same trail l m) others)) list m h in
      let none = not-true (list_any (λ l. stands_label le same trail l m) others) k.1 in
      (k.0, λ l i s. false≢true (sym (list_any_false (λ l. stands_label le same trail l m) others none l i) ∙ complete l m s))

  pub free_in : (others list : List (Label V)) (m : Label V) → Member list m → Member (free_of others list) m ⊎ ((l : Label V) × Member others l × Stands l m)
  free_in others list m h = ⊎_elim
      (λ t. let k = list_any_true (λ l. stands_label le same trail l m) others t in inr (k.0, k.1, sound k.0 m k.2))
      (λ f. inl (Member-filter_in (λ m. not (list_any (λ l. stands_label le same trail l m) others)) list m h (not_from_false (list_any (λ l. stands_label le same trail l m) others) f)))
      (cases_Bool (list_any (λ l. stands_label le same trail l m) others))

  pub rising_free : (cmp : V → V → Ordering) (others list : List (Label V)) → AreRising cmp list → AreRising cmp (free_of others list)
  rising_free cmp others list h = rising-filter cmp (λ m. not (list_any (λ l. stands_label le same trail l m) others)) list h

  -- no label stands for another one of a pool
  pub alone_in : (C : List (V × List ℕ)) (ls : List (Label V)) → ArePoolOf le same trail C ls → (a b : Label V) → Member ls a → Member ls b → Stands a b → shown trail a ≡ shown trail b
  alone_in C ls i a b p q h =
      let k = i.alone a.value (walk_of trail a.before) b.value (walk_of trail b.before) (Member-map_in (shown trail) ls a p) (Member-map_in (shown trail) ls b q) h in
      ap (λ z. (z, walk_of trail a.before)) k.0 ∙ ap (λ z. (b.value, z)) k.1

  module _ (one two free kept whole : List (Label V)) (is_free : free ≡ free_of one two) (is_kept : kept ≡ free_of free one)
      (from : (l : Label V) → Member whole l → Member kept l ⊎ Member free l)
      (with_kept : (l : Label V) → Member kept l → Member whole l) (with_free : (l : Label V) → Member free l → Member whole l) where
    free_is : (m : Label V) → Member free m → Member two m × ((l : Label V) → Member one l → Stands l m → ⊥)
    free_is m h = free_out one two m (subst (λ (ls : List (Label V)). Member ls m) is_free h)

    kept_is : (m : Label V) → Member kept m → Member one m × ((l : Label V) → Member free l → Stands l m → ⊥)
    kept_is m h = free_out free one m (subst (λ (ls : List (Label V)). Member ls m) is_kept h)

    -- for each label of the first list one of the whole may stand
    covers_one : (m : Label V) → Member one m → (z : Label V) × Member whole z × Stands z m
    covers_one m h = ⊎_elim
        (λ k. (m, with_kept m (subst (λ (ls : List (Label V)). Member ls m) (sym is_kept) k), itself m))
        (λ k. (k.0, with_free k.0 k.1, k.2))
        (free_in free one m h)

    covers_two : (m : Label V) → Member two m → (z : Label V) × Member whole z × Stands z m
    covers_two m h = ⊎_elim
        (λ k. (m, with_free m (subst (λ (ls : List (Label V)). Member ls m) (sym is_free) k), itself m))
        (λ k. let q = covers_one k.0 k.1 in (q.0, q.1, then_stands q.0 k.0 m q.2 k.2))
        (free_in one two m h)

    module _ (C D : List (V × List ℕ)) (i : ArePoolOf le same trail C one) (j : ArePoolOf le same trail D two) where
      alone_whole : (a b : Label V) → Member whole a → Member whole b → Stands a b → shown trail a ≡ shown trail b
      alone_whole a b p q h = ⊎_elim
          (λ ka. ⊎_elim
          (λ kb. alone_in C one i a b (kept_is a ka).0 (kept_is b kb).0 h)
          (λ fb. absurd ((free_is b fb).1 a (kept_is a ka).0 h))
          (from b q))
          (λ fa. ⊎_elim
          (λ kb. absurd ((kept_is b kb).1 a fa h))
          (λ fb. alone_in D two j a b (free_is a fa).0 (free_is b fb).0 h)
          (from b q))
          (from a p)

      abbrev pub both : List (V × List ℕ)
      both = map (shown trail) one ++ map (shown trail) two

      among_both : (l : Label V) → Member whole l → Member both (shown trail l)
      among_both l m = ⊎_elim
          (λ k. Member-append_left (map (shown trail) one) (map (shown trail) two) (shown trail l) (Member-map_in (shown trail) one l (kept_is l k).0))
          (λ f. Member-append_right (map (shown trail) one) (map (shown trail) two) (shown trail l) (Member-map_in (shown trail) two l (free_is l f).0))
          (from l m)

      covers_both : (e : V × List ℕ) → Member both e → (z : Label V) × Member whole z × Stand (shown trail z) e
      covers_both e m = ⊎_elim
          (λ h. let k = Member-map_out (shown trail) one e h in let q = covers_one k.0 k.1 in (q.0, q.1, subst (Stand (shown trail q.0)) k.2 q.2))
          (λ h. let k = Member-map_out (shown trail) two e h in let q = covers_two k.0 k.1 in (q.0, q.1, subst (Stand (shown trail q.0)) k.2 q.2))
          (Member-append (map (shown trail) one) (map (shown trail) two) e m)

      pool_of_both : IsPool le same ranks_at_most (λ v w. Member both (v, w)) (map (shown trail) whole)
      pool_of_both = record {
        among = λ v w m. let k = Member-map_out (shown trail) whole (v, w) m in subst (Member both) k.2 (among_both k.0 k.1);
        covers = λ x y m. let k = covers_both (x, y) m in (k.0.value, walk_of trail k.0.before, Member-map_in (shown trail) whole k.0 k.1, k.2);
        alone = λ v w x y m n h.
            let a = Member-map_out (shown trail) whole (v, w) m in
            let b = Member-map_out (shown trail) whole (x, y) n in
            let s : Stands a.0 b.0 = subst (λ p. Stand p (shown trail b.0)) (sym a.2) (subst (Stand (v, w)) (sym b.2) h) in
            let e : (v, w) ≡ (x, y) = sym a.2 ∙ (alone_whole a.0 b.0 a.1 b.1 s ∙ b.2) in
            (ap (λ p. p.0) e, ap (λ p. p.1) e);
      }

      -- the pool of the candidates of both
      pub merged_pool : ArePoolOf le same trail (C ++ D) whole
      merged_pool =
          same_pool V (List ℕ) le same ranks_at_most order ranks_order same_itself same_between (λ v w. Member C (v, w) ⊎ Member D (v, w)) (λ v w. Member (C ++ D) (v, w)) (map (shown trail) whole)
          (λ v w. ⊎_elim (λ m. Member-append_left C D (v, w) m) (λ m. Member-append_right C D (v, w) m))
          (λ v w m. Member-append C D (v, w) m)
          (pool_merge V (List ℕ) le same ranks_at_most order ranks_order same_itself same_between (λ v w. Member C (v, w)) (λ v w. Member D (v, w))
          (map (shown trail) one) (map (shown trail) two) (map (shown trail) whole) i j pool_of_both)

either : (o r : Ordering) → r ≡ ordering_reverse o → (is_le o ≡ true) ⊎ (is_le r ≡ true)
either Less r e = inl refl
either Equal r e = inl refl
either Greater r e = inr (ap is_le e)

pub ranks_total : (v w : List ℕ) → (ranks_at_most v w ≡ true) ⊎ (ranks_at_most w v ≡ true)
ranks_total v w = either (slice_cmp nat_cmp v w) (slice_cmp nat_cmp w v) ((lists_total nat_cmp_total).antisymm w v)

module _ {V : Type 0} (le same : V → V → Bool) (trail : Link → List ℕ) (order : IsOrder le) (same_itself : (a : V) → same a a ≡ true)
    (same_between : (a b c : V) → le a b ≡ true → le b c ≡ true → same a c ≡ true → (same a b ≡ true) × (same b c ≡ true)) where
  at_equal : (a b : Label V) → a.value ≡ b.value → ranks_at_most (walk_of trail a.before) (walk_of trail b.before) ≡ true → Stands le same trail order same_itself same_between a b
  at_equal a b e w = (subst (λ z. le a.value z ≡ true) e (order.reflexive a.value), λ s. w)

  -- no value stands in both lists
  pub kept_apart : (one two : List (Label V)) (a b : Label V) → Member (free_of le same trail order same_itself same_between (free_of le same trail order same_itself same_between one two) one) a
      → Member (free_of le same trail order same_itself same_between one two) b → a.value ≡ b.value → ⊥
  kept_apart one two a b p q e =
      let k = free_out le same trail order same_itself same_between (free_of le same trail order same_itself same_between one two) one a p in
      let f = free_out le same trail order same_itself same_between one two b q in
      ⊎_elim
      (λ w. f.1 a k.0 (at_equal a b e w))
      (λ w. k.1 b q (at_equal b a (sym e) w))
      (ranks_total (walk_of trail a.before) (walk_of trail b.before))
