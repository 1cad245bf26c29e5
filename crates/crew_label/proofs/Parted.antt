-- Labels that board, parted by whether something of them lapses as they do.
use Rattle.std.proofs.Common.{◌≡◌, ℕ, ◌+◌, ◌<◌, ◌⊎◌, Bool, true, false, cond, List, [], ◌∷◌, ◌++◌, Option, Some, None, ℤ, pos, ◌+ℤ◌, length, get_or, map, take, inl, inr, refl, sym, ◌∙◌, ap, subst, ⊎_elim, Ordering}
use Rattle.std.specs.declared.cmp.Ordering.TheVariants.{Less}
use Rattle.std.proofs.lemmas.Bool.{cases_Bool, false≢true}
use Rattle.crew_resource.specs.Labels.{IsLocal}
use Rattle.crew_resource.specs.Members.{Member}
use Rattle.crew_resource.specs.Resource.{OrderLaws}
use Rattle.crew_resource.proofs.Values.{below_order}
use Rattle.crew_forgetful.specs.Machinery.Sums.{is_same}
use Rattle.crew_forgetful.proofs.Offers.{same_pool}
use Rattle.crew_resource.proofs.Members.{Member-append, Member-append_left, Member-append_right, Member-map_in, Member-map_out}
use Rattle.crew_forgetful.specs.Lapses.{BoardLaws, TogetherLaws}
use Rattle.crew_label.specs.Boarding.{LeadInto, boarded_from, linked}
use Rattle.crew_label.specs.Pools.{AreCounted, ArePoolOf, AreRising}
use Rattle.crew_label.specs.Walks.{ranks_at_most, shown, walk_of}
use Rattle.crew_label.specs.Machinery.Runs.{AreRuns, InTurn, ThreeInTurn, boards_where}
use Rattle.crew_label.specs.declared.label.Label.{Label}
use Rattle.crew_label.specs.declared.label.Link.{Link}
use Rattle.crew_label.specs.declared.stand.Rule.TheVariants.{Values}
use Rattle.crew_label.proofs.Boarded.{boarded-more, boarded_counted}
use Rattle.crew_label.proofs.FrontPools.{front_from_pool, front_itself}
use Rattle.crew_label.proofs.MergedPools.{ranks_order}
use Rattle.crew_label.proofs.RisingLists.{each-member}
use Rattle.crew_label.proofs.RuleLaws.{rule_laws}

module _ {X : Type 0} where
  turn-first : (xs : List X) (a b : X) → InTurn xs a b → Member xs a
  turn-first [] a b t = absurd t
  turn-first (x ∷ xs) a b (inl (e, m)) = inl e
  turn-first (x ∷ xs) a b (inr t) = inr (turn-first xs a b t)

  three-first : (xs : List X) (a b c : X) → ThreeInTurn xs a b c → InTurn xs a b
  three-first [] a b c t = absurd t
  three-first (x ∷ xs) a b c (inl (e, t)) = inl (e, turn-first xs b c t)
  three-first (x ∷ xs) a b c (inr t) = inr (three-first xs a b c t)

  three-last : (xs : List X) (a b c : X) → ThreeInTurn xs a b c → InTurn xs b c
  three-last [] a b c t = absurd t
  three-last (x ∷ xs) a b c (inl (e, t)) = inr t
  three-last (x ∷ xs) a b c (inr t) = inr (three-last xs a b c t)

rising-turn : {V : Type 0} (cmp : V → V → Ordering) (ls : List (Label V)) (a b : Label V) → AreRising cmp ls → InTurn ls a b → cmp a.value b.value ≡ Less
rising-turn cmp [] a b h t = absurd t
rising-turn cmp (l ∷ ls) a b h (inl (e, m)) = subst (λ z. cmp z.value b.value ≡ Less) e (each-member (λ m. cmp l.value m.value ≡ Less) ls b h.0 m)
rising-turn cmp (l ∷ ls) a b h (inr t) = rising-turn cmp ls a b h.1 t

module _ {V : Type 0} (board : V → Option V) (duty : ℕ) where
  -- the label boards to the other
  abbrev Boards : Label V → Label V → Type 0
  Boards l a = board l.value ≡ Some a.value

  linked-first : (o : Option V) (link : Link) (rest : List (Label V)) (a : Label V) → Member (linked o link ++ rest) a → (o ≡ Some a.value) ⊎ Member rest a
  linked-first None link rest a m = inr m
  linked-first (Some v) link rest a (inl e) = inl (ap (λ z. Some z.value) e)
  linked-first (Some v) link rest a (inr m) = inr m

  linked-turn : (o : Option V) (link : Link) (rest : List (Label V)) (a b : Label V) → InTurn (linked o link ++ rest) a b → ((o ≡ Some a.value) × Member rest b) ⊎ InTurn rest a b
  linked-turn None link rest a b t = inr t
  linked-turn (Some v) link rest a b (inl (e, m)) = inl (ap (λ z. Some z.value) e, m)
  linked-turn (Some v) link rest a b (inr t) = inr t

  linked-three : (o : Option V) (link : Link) (rest : List (Label V)) (a b c : Label V) → ThreeInTurn (linked o link ++ rest) a b c → ((o ≡ Some a.value) × InTurn rest b c) ⊎ ThreeInTurn rest a b c
  linked-three None link rest a b c t = inr t
  linked-three (Some v) link rest a b c (inl (e, t)) = inl (ap (λ z. Some z.value) e, t)
  linked-three (Some v) link rest a b c (inr t) = inr t

  pub boarded-out : (n : ℕ) (ls : List (Label V)) (a : Label V) → Member (boarded_from board duty n ls) a → (l : Label V) × Member ls l × Boards l a
  boarded-out n [] a m = absurd m
  boarded-out n (l ∷ ls) a m = ⊎_elim
      (λ e. (l, inl refl, e))
      (λ k. let h = boarded-out (n + 1) ls a k in (h.0, inr h.1, h.2))
      (linked-first (board l.value) (record { duty = duty; place = n }) (boarded_from board duty (n + 1) ls) a m)

  pub boarded-turn : (n : ℕ) (ls : List (Label V)) (a b : Label V) → InTurn (boarded_from board duty n ls) a b → (l : Label V) × (m : Label V) × InTurn ls l m × Boards l a × Boards m b
  boarded-turn n [] a b t = absurd t
  boarded-turn n (l ∷ ls) a b t = ⊎_elim
      (λ e. let h = boarded-out (n + 1) ls b e.1 in (l, h.0, inl (refl, h.1), e.0, h.2))
      (λ k. let h = boarded-turn (n + 1) ls a b k in (h.0, h.1, inr h.2, h.3, h.4))
      (linked-turn (board l.value) (record { duty = duty; place = n }) (boarded_from board duty (n + 1) ls) a b t)

  pub boarded-three : (n : ℕ) (ls : List (Label V)) (a b c : Label V) → ThreeInTurn (boarded_from board duty n ls) a b c
      → (l : Label V) × (m : Label V) × (k : Label V) × ThreeInTurn ls l m k × Boards l a × Boards m b × Boards k c
  boarded-three n [] a b c t = absurd t
  boarded-three n (l ∷ ls) a b c t = ⊎_elim
      (λ e. let h = boarded-turn (n + 1) ls b c e.1 in (l, h.0, h.1, inl (refl, h.2), e.0, h.3, h.4))
      (λ k. let h = boarded-three (n + 1) ls a b c k in (h.0, h.1, h.2, inr h.3, h.4, h.5, h.6))
      (linked-three (board l.value) (record { duty = duty; place = n }) (boarded_from board duty (n + 1) ls) a b c t)

module _ {V : Type 0} (board : V → Option V) (duty : ℕ) where
  linked-part : (o p : Option V) → (p ≡ None) ⊎ (p ≡ o) → (link : Link) (a : Label V) → Member (linked p link) a → Member (linked o link) a
  linked-part o p (inl e) link a m = absurd (subst (λ z. Member (linked z link) a) e m)
  linked-part o p (inr e) link a m = subst (λ z. Member (linked z link) a) e m

  -- the next label boards, if it can
  pub boarded-next : (ls old new : List (Label V)) (i : ℕ) (l : Label V) → i < length ls → l ≡ get_or ls i l → old ≡ boarded_from board duty 0 (take i ls)
      → new ≡ old ++ linked (board l.value) (record { duty = duty; place = i }) → new ≡ boarded_from board duty 0 (take (i + 1) ls)
  boarded-next ls old new i l h e is_old is_new =
      is_new ∙ (ap (λ (xs : List (Label V)). xs ++ linked (board l.value) (record { duty = duty; place = i })) is_old ∙ boarded-more board duty ls i l h e)

  -- of values of which fewer board
  pub boarded-part : (part : V → Option V) → ((v : V) → (part v ≡ None) ⊎ (part v ≡ board v)) → (n : ℕ) (ls : List (Label V)) (a : Label V)
      → Member (boarded_from part duty n ls) a → Member (boarded_from board duty n ls) a
  boarded-part part f n [] a m = absurd m
  boarded-part part f n (l ∷ ls) a m = let link : Link = record { duty = duty; place = n } in ⊎_elim
      (λ h. Member-append_left (linked (board l.value) link) (boarded_from board duty (n + 1) ls) a (linked-part (board l.value) (part l.value) (f l.value) link a h))
      (λ h. Member-append_right (linked (board l.value) link) (boarded_from board duty (n + 1) ls) a (boarded-part part f (n + 1) ls a h))
      (Member-append (linked (part l.value) link) (boarded_from part duty (n + 1) ls) a m)

  -- where each boards by one way or the other
  pub boarded-either : (one two : V → Option V) → ((v : V) → (board v ≡ one v) ⊎ (board v ≡ two v)) → (n : ℕ) (ls : List (Label V)) (a : Label V)
      → Member (boarded_from board duty n ls) a → Member (boarded_from one duty n ls) a ⊎ Member (boarded_from two duty n ls) a
  boarded-either one two f n [] a m = absurd m
  boarded-either one two f n (l ∷ ls) a m = let link : Link = record { duty = duty; place = n } in ⊎_elim
      (λ h. ⊎_elim
      (λ e. inl (Member-append_left (linked (one l.value) link) (boarded_from one duty (n + 1) ls) a (subst (λ z. Member (linked z link) a) e h)))
      (λ e. inr (Member-append_left (linked (two l.value) link) (boarded_from two duty (n + 1) ls) a (subst (λ z. Member (linked z link) a) e h)))
      (f l.value))
      (λ h. ⊎_elim
      (λ k. inl (Member-append_right (linked (one l.value) link) (boarded_from one duty (n + 1) ls) a k))
      (λ k. inr (Member-append_right (linked (two l.value) link) (boarded_from two duty (n + 1) ls) a k))
      (boarded-either one two f (n + 1) ls a h))
      (Member-append (linked (board l.value) link) (boarded_from board duty (n + 1) ls) a m)

module _ {V : Type 0} (lapses : V → Bool) (board : V → Option V) where
  pub where_part : (lapsing : Bool) (v : V) → (boards_where lapsing lapses board v ≡ None) ⊎ (boards_where lapsing lapses board v ≡ board v)
  where_part true v = of (lapses v) where
    of : (b : Bool) → (cond b (board v) None ≡ None) ⊎ (cond b (board v) None ≡ board v)
    of true = inr refl
    of false = inl refl
  where_part false v = of (lapses v) where
    of : (b : Bool) → (cond b None (board v) ≡ None) ⊎ (cond b None (board v) ≡ board v)
    of true = inl refl
    of false = inr refl

  pub where_either : (v : V) → (board v ≡ boards_where false lapses board v) ⊎ (board v ≡ boards_where true lapses board v)
  where_either v = of (lapses v) where
    of : (b : Bool) → (board v ≡ cond b None (board v)) ⊎ (board v ≡ cond b (board v) None)
    of true = inr refl
    of false = inl refl

  where_kept : (v y : V) → boards_where false lapses board v ≡ Some y → (lapses v ≡ false) × (board v ≡ Some y)
  where_kept v y = of (lapses v) (board v) where
    of : (b : Bool) (o : Option V) → cond b None o ≡ Some y → (b ≡ false) × (o ≡ Some y)
    of true o e = absurd (none_some y e) where
      none_some : (z : V) → None ≡ Some z → ⊥
      none_some z q = (cc)
    of false o e = (refl, e)

module _ {N V G X : Type 0} (cmp : V → V → Ordering) (below same : V → V → Bool) (wait : V → X → G → V) (boards : V → N → Option V) (lapses : V → N → Bool)
    (t : TogetherLaws cmp same wait boards) (k : BoardLaws below boards lapses) (itself : (a : V) → same a a ≡ true) (trail : Link → List ℕ) (d : N) where
  -- in a pool only one with the same sums is at most another
  clean_same : (candidates : List (V × List ℕ)) (pool : List (Label V)) → ArePoolOf below same trail candidates pool → (a b : Label V) → Member pool a → Member pool b → below a.value b.value ≡ true
      → same a.value b.value ≡ true
  clean_same candidates pool i a b m n h = ⊎_elim
      (λ s. s)
      (λ f.
      let one = i.alone a.value (walk_of trail a.before) b.value (walk_of trail b.before) (Member-map_in (shown trail) pool a m) (Member-map_in (shown trail) pool b n) (h, λ s. absurd (false≢true (sym f ∙ s))) in
      subst (λ v. same a.value v ≡ true) one.0 (itself a.value))
      (cases_Bool (same a.value b.value))

  abbrev pub kept : V → Option V
  kept = boards_where false (λ v. lapses v d) (λ v. boards v d)

  -- the labels that board and of which nothing lapses
  pub kept_runs : (duty : ℕ) (candidates : List (V × List ℕ)) (pool : List (Label V)) → AreRising cmp pool → ArePoolOf below same trail candidates pool
      → AreRuns cmp below same (boarded_from kept duty 0 pool)
  kept_runs duty candidates pool r i = record {
    together = λ a b c h s.
        let p = boarded-three kept duty 0 pool a b c h in
        let x = where_kept (λ v. lapses v d) (λ v. boards v d) p.0.value a.value p.4 in
        let y = where_kept (λ v. lapses v d) (λ v. boards v d) p.1.value b.value p.5 in
        let z = where_kept (λ v. lapses v d) (λ v. boards v d) p.2.value c.value p.6 in
        t.board_same p.0.value p.1.value a.value b.value d x.1 y.1
        ∙ t.together p.0.value p.1.value p.2.value (rising-turn cmp pool p.0 p.1 r (three-first pool p.0 p.1 p.2 p.3)) (rising-turn cmp pool p.1 p.2 r (three-last pool p.0 p.1 p.2 p.3))
        (sym (t.board_same p.0.value p.2.value a.value c.value d x.1 z.1) ∙ s);
    rise = λ a b h s.
        let p = boarded-turn kept duty 0 pool a b h in
        let x = where_kept (λ v. lapses v d) (λ v. boards v d) p.0.value a.value p.3 in
        let y = where_kept (λ v. lapses v d) (λ v. boards v d) p.1.value b.value p.4 in
        t.board_rises p.0.value p.1.value a.value b.value d x.1 y.1 (rising-turn cmp pool p.0 p.1 r p.2) (sym (t.board_same p.0.value p.1.value a.value b.value d x.1 y.1) ∙ s);
    apart = λ a b m n h.
        let p = boarded-out kept duty 0 pool a m in
        let q = boarded-out kept duty 0 pool b n in
        let x = where_kept (λ v. lapses v d) (λ v. boards v d) p.0.value a.value p.2 in
        let y = where_kept (λ v. lapses v d) (λ v. boards v d) q.0.value b.value q.2 in
        t.board_same p.0.value q.0.value a.value b.value d x.1 y.1
        ∙ clean_same candidates pool i p.0 q.0 p.1 q.1 (k.board_reflects p.0.value q.0.value a.value b.value d x.0 x.1 y.1 h);
  }

module _ {V : Type 0} (trail : Link → List ℕ) (lapses : V → Bool) (board : V → Option V) (duty : ℕ) (pool : List (Label V)) where
  -- the candidates of both parts are those of the whole
  pub both_in : (e : V × List ℕ) → Member (map (shown trail) (boarded_from (boards_where false lapses board) duty 0 pool) ++ map (shown trail) (boarded_from (boards_where true lapses board) duty 0 pool)) e
      → Member (map (shown trail) (boarded_from board duty 0 pool)) e
  both_in e m = ⊎_elim (part false) (part true)
      (Member-append (map (shown trail) (boarded_from (boards_where false lapses board) duty 0 pool)) (map (shown trail) (boarded_from (boards_where true lapses board) duty 0 pool)) e m) where
        part : (lapsing : Bool) → Member (map (shown trail) (boarded_from (boards_where lapsing lapses board) duty 0 pool)) e → Member (map (shown trail) (boarded_from board duty 0 pool)) e
        part lapsing h =
            let k = Member-map_out (shown trail) (boarded_from (boards_where lapsing lapses board) duty 0 pool) e h in
            subst (Member (map (shown trail) (boarded_from board duty 0 pool))) k.2
            (Member-map_in (shown trail) (boarded_from board duty 0 pool) k.0 (boarded-part board duty (boards_where lapsing lapses board) (where_part lapses board lapsing) 0 pool k.0 k.1))

  pub both_out : (e : V × List ℕ) → Member (map (shown trail) (boarded_from board duty 0 pool)) e
      → Member (map (shown trail) (boarded_from (boards_where false lapses board) duty 0 pool) ++ map (shown trail) (boarded_from (boards_where true lapses board) duty 0 pool)) e
  both_out e m =
      let kept = boarded_from (boards_where false lapses board) duty 0 pool in
      let cut = boarded_from (boards_where true lapses board) duty 0 pool in
      let k = Member-map_out (shown trail) (boarded_from board duty 0 pool) e m in
      subst (Member (map (shown trail) kept ++ map (shown trail) cut)) k.2 (⊎_elim
      (λ h. Member-append_left (map (shown trail) kept) (map (shown trail) cut) (shown trail k.0) (Member-map_in (shown trail) kept k.0 h))
      (λ h. Member-append_right (map (shown trail) kept) (map (shown trail) cut) (shown trail k.0) (Member-map_in (shown trail) cut k.0 h))
      (boarded-either board duty (boards_where false lapses board) (boards_where true lapses board) (where_either lapses board) 0 pool k.0 k.1))

  part_in : (lapsing : Bool) (l : Label V) → Member (boarded_from (boards_where lapsing lapses board) duty 0 pool) l → Member (boarded_from board duty 0 pool) l
  part_in lapsing l m = boarded-part board duty (boards_where lapsing lapses board) (where_part lapses board lapsing) 0 pool l m

  -- labels of either part have what labels that board have
  pub part_counted : (count : V → ℤ) (leads : Link → Bool) (rank : ℕ) → ((v z : V) → board v ≡ Some z → count z ≡ count v +ℤ pos 1) → LeadInto leads trail duty rank pool → AreCounted count leads trail pool
      → (lapsing : Bool) (view now : List (Label V)) → view ≡ boarded_from (boards_where lapsing lapses board) duty 0 pool → now ≡ view → AreCounted count leads trail now
  part_counted count leads rank one_more h c lapsing view now e f l m =
      boarded_counted board duty leads trail rank count one_more pool h c l (part_in lapsing l (subst (λ (ls : List (Label V)). Member ls l) (f ∙ e) m))

  module _ (kept cut kept_now cut_now front : List (Label V)) (is_kept : kept ≡ boarded_from (boards_where false lapses board) duty 0 pool)
      (is_cut : cut ≡ boarded_from (boards_where true lapses board) duty 0 pool) (kept_is : kept_now ≡ kept) (cut_is : cut_now ≡ cut) where
    pub from_parts : ((l : Label V) → Member front l → Member kept_now l ⊎ Member cut_now l) → (l : Label V) → Member front l → Member (boarded_from board duty 0 pool) l
    from_parts f l m = ⊎_elim
        (λ h. part_in false l (subst (λ (ls : List (Label V)). Member ls l) (kept_is ∙ is_kept) h))
        (λ h. part_in true l (subst (λ (ls : List (Label V)). Member ls l) (cut_is ∙ is_cut) h))
        (f l m)

    module _ (cmp : V → V → Ordering) (below same : V → V → Bool) (order : OrderLaws cmp below) (itself : (a : V) → same a a ≡ true)
        (between : (a b c : V) → below a b ≡ true → below b c ≡ true → same a c ≡ true → (same a b ≡ true) × (same b c ≡ true)) where
      -- the front of both parts is that of the whole
      pub front_of_parts : ArePoolOf below (is_same below) trail (map (shown trail) kept_now ++ map (shown trail) cut_now) front
          → IsLocal below ranks_at_most (λ v w. Member (map (shown trail) (boarded_from board duty 0 pool)) (v, w)) (map (shown trail) front)
      front_of_parts i =
          let k = rule_laws cmp below same order itself between Values in
          let first = boarded_from (boards_where false lapses board) duty 0 pool in
          let second = boarded_from (boards_where true lapses board) duty 0 pool in
          let j : ArePoolOf below (is_same below) trail (map (shown trail) first ++ map (shown trail) second) front =
          subst (λ (ls : List (Label V)). ArePoolOf below (is_same below) trail (map (shown trail) first ++ map (shown trail) ls) front) (cut_is ∙ is_cut)
          (subst (λ (ls : List (Label V)). ArePoolOf below (is_same below) trail (map (shown trail) ls ++ map (shown trail) cut_now) front) (kept_is ∙ is_kept) i) in
          front_from_pool cmp below order k.0 k.1 (λ v w. Member (map (shown trail) (boarded_from board duty 0 pool)) (v, w)) (map (shown trail) front)
          (same_pool V (List ℕ) below (is_same below) ranks_at_most (below_order order) ranks_order k.0 k.1
          (λ v w. Member (map (shown trail) first ++ map (shown trail) second) (v, w)) (λ v w. Member (map (shown trail) (boarded_from board duty 0 pool)) (v, w)) (map (shown trail) front)
          (λ v w m. both_in (v, w) m) (λ v w m. both_out (v, w) m) j)

      pub itself_of_parts : ArePoolOf below (is_same below) trail (map (shown trail) kept_now ++ map (shown trail) cut_now) front → ArePoolOf below same trail (map (shown trail) front) front
      itself_of_parts i = front_itself cmp below order same itself between (λ v w. Member (map (shown trail) (boarded_from board duty 0 pool)) (v, w)) (map (shown trail) front) (front_of_parts i)
