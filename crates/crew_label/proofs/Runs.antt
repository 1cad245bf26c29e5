-- The front of labels of which those with the same sums stand together, run by run.
use Rattle.std.proofs.Common.{◌≡◌, ℕ, zero, suc, ◌+◌, ◌-◌, ◌<◌, ◌≤◌, ◌⊎◌, Bool, true, false, List, [], ◌∷◌, ◌++◌, Some, length, get_or, map, take, drop, inl, inr, refl, sym, ◌∙◌, ap, subst, ⊎_elim, arith, append-nil, length-drop, Ordering}
use Rattle.std.specs.Prelude.{◌==◌, slice_get}
use Rattle.std.specs.declared.cmp.Ordering.TheVariants.{Less}
use Rattle.std.proofs.Math.Seq.{take-add}
use Rattle.std.proofs.lemmas.Bool.{cases_Bool, false≢true}
use Rattle.std.proofs.lemmas.Bool.Decides.{nat_tests}
use Rattle.std.proofs.lemmas.List.{drop-drop, map-append, take-append-drop, take_all, take_more}
use Rattle.crew_resource.specs.Members.{Each, Member}
use Rattle.crew_resource.proofs.Members.{Member-append, Member-append_left, Member-append_right, Member-map_out}
use Rattle.crew_resource.specs.Resource.{OrderLaws}
use Rattle.crew_resource.proofs.Values.{below_order}
use Rattle.crew_forgetful.specs.Forgetful.{IsPool}
use Rattle.crew_forgetful.specs.Machinery.Sums.{is_same}
use Rattle.crew_label.specs.Pools.{ArePoolOf, AreRising}
use Rattle.crew_label.specs.Walks.{ranks_at_most, shown}
use Rattle.crew_label.specs.Machinery.Runs.{AreRuns, InTurn, IsFrontOf, IsRun, ThreeInTurn}
use Rattle.crew_label.specs.declared.label.Label.{Label}
use Rattle.crew_label.specs.declared.label.Link.{Link}
use Rattle.crew_label.specs.declared.stand.Rule.TheVariants.{Values}
use Rattle.crew_label.proofs.Halves.{few_pool, few_rise}
use Rattle.crew_label.proofs.Interleaved.{at_place}
use Rattle.crew_label.proofs.RuleLaws.{rule_laws}

module _ {X : Type 0} where
  turn-here : (xs ys : List X) (a b : X) → Member xs a → Member ys b → InTurn (xs ++ ys) a b
  turn-here [] ys a b m n = absurd m
  turn-here (x ∷ xs) ys a b (inl e) n = inl (e, Member-append_right xs ys b n)
  turn-here (x ∷ xs) ys a b (inr m) n = inr (turn-here xs ys a b m n)

  three-here : (xs ys : List X) (a b c : X) → Member xs a → InTurn ys b c → ThreeInTurn (xs ++ ys) a b c
  three-here xs ys a b c = here xs where
    later : (zs : List X) → InTurn ys b c → InTurn (zs ++ ys) b c
    later [] t = t
    later (z ∷ zs) t = inr (later zs t)

    here : (zs : List X) → Member zs a → InTurn ys b c → ThreeInTurn (zs ++ ys) a b c
    here [] m t = absurd m
    here (z ∷ zs) (inl e) t = inl (e, later zs t)
    here (z ∷ zs) (inr m) t = inr (here zs m t)

  three-later : (xs ys : List X) (a b c : X) → ThreeInTurn ys a b c → ThreeInTurn (xs ++ ys) a b c
  three-later [] ys a b c t = t
  three-later (x ∷ xs) ys a b c t = inr (three-later xs ys a b c t)

  -- what is left from a place on is nothing, or begins with what stands there
  from_place : (n : ℕ) (xs : List X) → (drop n xs ≡ []) ⊎ ((y : X) × (ys : List X) × (drop n xs ≡ y ∷ ys) × (slice_get xs n ≡ Some y))
  from_place zero [] = inl refl
  from_place zero (x ∷ xs) = inr (x, xs, refl, refl)
  from_place (suc n) [] = inl refl
  from_place (suc n) (x ∷ xs) = from_place n xs

-- what is left from a place on
pub rest_of : {X : Type 0} (n : ℕ) (xs : List X) → take (length xs - n) (drop n xs) ≡ drop n xs
rest_of n xs = let k = length-drop n xs in take_all (length xs - n) (drop n xs) (omega (arith, k))

pub member-rest : {X : Type 0} (n len : ℕ) (xs : List X) (x : X) → Member (take len (take (length xs - n) (drop n xs))) x → Member xs x
member-rest {X} n len xs x m =
    let rest = take (length xs - n) (drop n xs) in
    subst (λ (ys : List X). Member ys x) (take-append-drop n xs)
    (Member-append_right (take n xs) (drop n xs) x (subst (λ (ys : List X). Member ys x) (rest_of n xs)
    (subst (λ (ys : List X). Member ys x) (take-append-drop len rest) (Member-append_left (take len rest) (drop len rest) x m))))

pub less-left : (n from len : ℕ) → from < n → 0 < len → n - (from + len) < n - from
less-left n from len h k = omega arith

module _ {V : Type 0} (cmp : V → V → Ordering) where
  rising-both : (ls ms : List (Label V)) → AreRising cmp ls → AreRising cmp ms → ((l m : Label V) → Member ls l → Member ms m → cmp l.value m.value ≡ Less) → AreRising cmp (ls ++ ms)
  rising-both [] ms p q b = q
  rising-both (l ∷ ls) ms p q b =
      (each ls p.0 ms (λ m k. b l m (inl refl) k), rising-both ls ms p.1 q (λ k m h n. b k m (inr h) n)) where
        all : (ns : List (Label V)) → ((m : Label V) → Member ns m → cmp l.value m.value ≡ Less) → Each (λ m. cmp l.value m.value ≡ Less) ns
        all [] f = tt
        all (n ∷ ns) f = (f n (inl refl), all ns (λ m k. f m (inr k)))

        each : (xs : List (Label V)) → Each (λ m. cmp l.value m.value ≡ Less) xs → (ns : List (Label V)) → ((m : Label V) → Member ns m → cmp l.value m.value ≡ Less)
            → Each (λ m. cmp l.value m.value ≡ Less) (xs ++ ns)
        each [] h ns f = all ns f
        each (x ∷ xs) h ns f = (h.0, each xs h.1 ns f)

module _ {V : Type 0} (le same : V → V → Bool) where
  -- two pools, where none of either is at most one of the other
  appended : (C D one two : List (V × List ℕ)) → IsPool le same ranks_at_most (λ v w. Member C (v, w)) one → IsPool le same ranks_at_most (λ v w. Member D (v, w)) two
      → ((v : V) (w : List ℕ) (x : V) (y : List ℕ) → Member one (v, w) → Member two (x, y) → (le v x ≡ true → ⊥) × (le x v ≡ true → ⊥))
      → IsPool le same ranks_at_most (λ v w. Member (C ++ D) (v, w)) (one ++ two)
  appended C D one two i j apart = record {
    among = λ v w m. ⊎_elim
        (λ h. Member-append_left C D (v, w) (i.among v w h))
        (λ h. Member-append_right C D (v, w) (j.among v w h))
        (Member-append one two (v, w) m);
    covers = λ x y m. ⊎_elim
        (λ h. let k = i.covers x y h in (k.0, k.1, Member-append_left one two (k.0, k.1) k.2, k.3))
        (λ h. let k = j.covers x y h in (k.0, k.1, Member-append_right one two (k.0, k.1) k.2, k.3))
        (Member-append C D (x, y) m);
    alone = λ v w x y m n s. ⊎_elim
        (λ a. ⊎_elim (λ b. i.alone v w x y a b s) (λ b. absurd ((apart v w x y a b).0 s.0)) (Member-append one two (x, y) n))
        (λ a. ⊎_elim (λ b. absurd ((apart x y v w b a).1 s.0)) (λ b. j.alone v w x y a b s) (Member-append one two (x, y) n))
        (Member-append one two (v, w) m);
  }

  labels_appended : (trail : Link → List ℕ) (ps qs one two : List (Label V)) → ArePoolOf le same trail (map (shown trail) ps) one → ArePoolOf le same trail (map (shown trail) qs) two
      → ((a b : Label V) → Member one a → Member two b → (le a.value b.value ≡ true → ⊥) × (le b.value a.value ≡ true → ⊥))
      → ArePoolOf le same trail (map (shown trail) (ps ++ qs)) (one ++ two)
  labels_appended trail ps qs one two i j apart =
      let both = appended (map (shown trail) ps) (map (shown trail) qs) (map (shown trail) one) (map (shown trail) two) i j
      (λ v w x y m n.
      let a = Member-map_out (shown trail) one (v, w) m in
      let b = Member-map_out (shown trail) two (x, y) n in
      let Apart : V × List ℕ → V × List ℕ → Type 0 = λ p q. (le p.0 q.0 ≡ true → ⊥) × (le q.0 p.0 ≡ true → ⊥) in
      subst (λ p. Apart p (x, y)) a.2 (subst (Apart (shown trail a.0)) b.2 (apart a.0 b.0 a.1 b.1))) in
      subst (λ (es : List (V × List ℕ)). IsPool le same ranks_at_most (λ v w. Member es (v, w)) (map (shown trail) (one ++ two))) (sym (map-append (shown trail) ps qs))
      (subst (λ (es : List (V × List ℕ)). IsPool le same ranks_at_most (λ v w. Member (map (shown trail) ps ++ map (shown trail) qs) (v, w)) es) (sym (map-append (shown trail) one two)) both)

module _ {V : Type 0} (same : V → V → Bool) where
  -- a run isn't empty
  pub run-some : (itself : (a : V) → same a a ≡ true) (labels : List (Label V)) (len : ℕ) → 0 < length labels → IsRun same labels len → 0 < len
  run-some itself [] len h i = absurd (omega arith)
  run-some itself (x ∷ xs) zero h i = absurd (false≢true (sym (i.ends x x refl refl) ∙ itself x.value))
  run-some itself (x ∷ xs) (suc n) h i = omega arith

  pub run-some-from : (itself : (a : V) → same a a ≡ true) (labels : List (Label V)) (from len : ℕ) → from < length labels → IsRun same (take (length labels - from) (drop from labels)) len → 0 < len
  run-some-from itself labels from len h i =
      let k = length-drop from labels in
      let q = ap length (rest_of from labels) in
      run-some itself (take (length labels - from) (drop from labels)) len (omega (arith, k, q)) i

  -- one label more with the sums of the first
  pub run-more : (labels : List (Label V)) (i : ℕ) (first next : Label V) → i < length labels → first ≡ get_or labels 0 first → next ≡ get_or labels i next → same first.value next.value ≡ true
      → ((x l : Label V) → slice_get labels 0 ≡ Some x → Member (take i labels) l → same x.value l.value ≡ true)
      → (x l : Label V) → slice_get labels 0 ≡ Some x → Member (take (i + 1) labels) l → same x.value l.value ≡ true
  run-more labels i first next h is_first is_next e so_far x l at m =
      let some : 0 < length labels = omega (arith, h) in
      let q : first ≡ x = at_place labels 0 first x some is_first at in
      let split : take (i + 1) labels ≡ take i labels ++ next ∷ [] = take_more labels i next h ∙ ap (λ z. take i labels ++ z ∷ []) (sym is_next) in
      ⊎_elim
      (λ k. so_far x l at k)
      (⊎_elim (λ k. subst (λ (z : Label V). same x.value z.value ≡ true) k (subst (λ (z : Label V). same z.value next.value ≡ true) q e)) (λ k. absurd k))
      (Member-append (take i labels) (next ∷ []) l (subst (λ (ls : List (Label V)). Member ls l) split m))

  -- all labels have the sums of the first
  pub run-all : (labels : List (Label V)) (n : ℕ) → length labels ≤ n → ((x l : Label V) → slice_get labels 0 ≡ Some x → Member (take n labels) l → same x.value l.value ≡ true) → IsRun same labels (length labels)
  run-all labels n h so_far = record {
    within = omega arith;
    alike = λ x l at m. so_far x l at (subst (λ (ls : List (Label V)). Member ls l) (take_all (length labels) labels (omega arith) ∙ sym (take_all n labels h)) m);
    ends = λ x l at past. absurd (none_there labels l past);
  } where
    none_there : (ls : List (Label V)) (l : Label V) → slice_get ls (length ls) ≡ Some l → ⊥
    none_there [] l e = (cc)
    none_there (y ∷ ys) l e = none_there ys l e

module _ {V : Type 0} (cmp : V → V → Ordering) (below same : V → V → Bool) (trail : Link → List ℕ) where
  -- of labels of the two lists none has the sums of one of the other
  abbrev pub Differ : List (Label V) → List (Label V) → Type 0
  Differ ls ms = (a b : Label V) → Member ls a → Member ms b → same a.value b.value ≡ false

  -- the front of the labels before a place, where the sums change
  pub record IsFrontBefore (labels : List (Label V)) (from : ℕ) (front : List (Label V)) : Type 0 where
    pub differ : Differ (take from labels) (drop from labels)
    pub so_far : IsFrontOf cmp below trail (take from labels) front

  -- none yet
  pub front-none : (labels : List (Label V)) → IsFrontBefore labels 0 []
  front-none labels = record {
    differ = λ a b m n. absurd m;
    so_far = record {
      rises = tt;
      pool = record { among = λ v w m. m; covers = λ x y m. absurd m; alone = λ v w x y m n s. absurd m };
      from = λ l m. m;
    };
  }

  -- the front of a list is that of it and of an empty one
  pub front-alone : (kept cut front : List (Label V)) → (length cut == 0) ≡ true → IsFrontOf cmp below trail kept front
      → ArePoolOf below (is_same below) trail (map (shown trail) kept ++ map (shown trail) cut) front
  front-alone kept [] front e f =
      subst (λ (es : List (V × List ℕ)). ArePoolOf below (is_same below) trail es front) (sym (append-nil (map (shown trail) kept))) f.pool
  front-alone kept (l ∷ ls) front e f = absurd (let k : 0 < length (l ∷ ls) = omega arith in let q : ⊥ = grind (arith, nat_tests) in q)

  pub front-all : (labels front : List (Label V)) (n : ℕ) → length labels ≤ n → IsFrontBefore labels n front → IsFrontOf cmp below trail labels front
  front-all labels front n h i = subst (λ (ls : List (Label V)). IsFrontOf cmp below trail ls front) (take_all n labels h) i.so_far

module _ {V : Type 0} (cmp : V → V → Ordering) (below same : V → V → Bool) (trail : Link → List ℕ) (itself : (a : V) → same a a ≡ true)
    (other : (a b c : V) → same a b ≡ true → same a c ≡ true → same b c ≡ true) where
  turned : (a b : V) → same a b ≡ true → same b a ≡ true
  turned a b e = other a b a e (itself a)

  through : (a b c : V) → same a b ≡ true → same b c ≡ true → same a c ≡ true
  through a b c e f = other b a c (turned a b e) f

  -- where a run ends the sums change
  differ-next : (before rest : List (Label V)) (len : ℕ) → IsRun same rest len → AreRuns cmp below same (before ++ rest) → Differ cmp below same trail before rest
      → (a b : Label V) → Member (take len rest) a → Member (drop len rest) b → same a.value b.value ≡ true → ⊥
  differ-next before [] len i r d a b m n e = absurd (subst (λ (ls : List (Label V)). Member ls b) (take-append-drop len []) (Member-append_right (take len []) (drop len []) b n))
  differ-next before (x ∷ xs) len i r d a b m n e = of (from_place len (x ∷ xs)) where
    of : (drop len (x ∷ xs) ≡ []) ⊎ ((y : Label V) × (ys : List (Label V)) × (drop len (x ∷ xs) ≡ y ∷ ys) × (slice_get (x ∷ xs) len ≡ Some y)) → ⊥
    of (inl none) = absurd (subst (λ (ls : List (Label V)). Member ls b) none n)
    of (inr (y, ys, is, at)) = contrary (subst (λ (ls : List (Label V)). Member ls b) is n) where
      with_y : same a.value y.value ≡ true → ⊥
      with_y s = false≢true (sym (i.ends x y refl at) ∙ through x.value a.value y.value (i.alike x a refl m) s)

      contrary : Member (y ∷ ys) b → ⊥
      contrary (inl q) = with_y (subst (λ (l : Label V). same a.value l.value ≡ true) (sym q) e)
      contrary (inr k) = with_y (r.together a y b (three-later before (x ∷ xs) a y b
          (subst (λ (ls : List (Label V)). ThreeInTurn ls a y b) (take-append-drop len (x ∷ xs))
          (three-here (take len (x ∷ xs)) (drop len (x ∷ xs)) a y b m (subst (λ (ls : List (Label V)). InTurn ls y b) (sym is) (inl (refl, k)))))) e)

  -- the front of one run more
  pub front-next : (labels rest run old new : List (Label V)) (from len : ℕ) → rest ≡ drop from labels → run ≡ take len rest → IsRun same rest len → AreRuns cmp below same labels
      → ((front : List (Label V)) × (new ≡ old ++ front) × IsFrontOf cmp below trail run front) → IsFrontBefore cmp below same trail labels from old → IsFrontBefore cmp below same trail labels (from + len) new
  front-next labels rest run old new from len is_rest is_run i r (front, is_new, f) k =
      let whole : take from labels ++ rest ≡ labels = ap (λ ls. take from labels ++ ls) is_rest ∙ take-append-drop from labels in
      let s = k.so_far in
      let first : take (from + len) labels ≡ take from labels ++ run = take-add from len labels ∙ ap (λ ls. take from labels ++ ls) (sym (is_run ∙ ap (take len) is_rest)) in
      let second : drop (from + len) labels ≡ drop len rest = sym (drop-drop len from labels) ∙ ap (drop len) (sym is_rest) in
      let split : run ++ drop len rest ≡ rest = ap (λ ls. ls ++ drop len rest) is_run ∙ take-append-drop len rest in
      let in_rest : (l : Label V) → Member run l → Member rest l = (λ l m. subst (λ (ls : List (Label V)). Member ls l) split (Member-append_left run (drop len rest) l m)) in
      let after_run : (l : Label V) → Member (drop len rest) l → Member rest l = (λ l m. subst (λ (ls : List (Label V)). Member ls l) split (Member-append_right run (drop len rest) l m)) in
      let d : Differ cmp below same trail (take from labels) rest = (λ a b m n. k.differ a b m (subst (λ (ls : List (Label V)). Member ls b) is_rest n)) in
      let runs : AreRuns cmp below same (take from labels ++ rest) = subst (AreRuns cmp below same) (sym whole) r in
      let in_all : (l : Label V) → Member rest l → Member labels l = (λ l m. subst (λ (ls : List (Label V)). Member ls l) whole (Member-append_right (take from labels) rest l m)) in
      let before_all : (l : Label V) → Member (take from labels) l → Member labels l = (λ l m. subst (λ (ls : List (Label V)). Member ls l) whole (Member-append_left (take from labels) rest l m)) in
      let front_differs : (a b : Label V) → Member old a → Member front b → same a.value b.value ≡ false = (λ a b m n. d a b (s.from a m) (in_rest b (f.from b n))) in
      record {
        differ = λ a b m n.
            let q = subst (λ (ls : List (Label V)). Member ls b) second n in
            ⊎_elim
            (λ p. d a b p (after_run b q))
            (λ p. ⊎_elim
            (λ t. absurd (differ-next (take from labels) rest len i runs d a b (subst (λ (ls : List (Label V)). Member ls a) is_run p) q t))
            (λ z. z)
            (cases_Bool (same a.value b.value)))
            (Member-append (take from labels) run a (subst (λ (ls : List (Label V)). Member ls a) first m));
        so_far = subst (λ (ls : List (Label V)). IsFrontOf cmp below trail ls new) (sym first) (subst (IsFrontOf cmp below trail (take from labels ++ run)) (sym is_new) record {
          rises = rising-both cmp old front s.rises f.rises
              (λ a b m n. r.rise a b (subst (λ (ls : List (Label V)). InTurn ls a b) whole (turn-here (take from labels) rest a b (s.from a m) (in_rest b (f.from b n)))) (front_differs a b m n));
          pool = labels_appended below (is_same below) trail (take from labels) run old front s.pool f.pool
              (λ a b m n. (
                λ h. false≢true (sym (front_differs a b m n) ∙ r.apart a b (before_all a (s.from a m)) (in_all b (in_rest b (f.from b n))) h),
                λ h. false≢true (sym (front_differs a b m n) ∙ turned b.value a.value (r.apart b a (in_all b (in_rest b (f.from b n))) (before_all a (s.from a m)) h)),
              ));
          from = λ l m. ⊎_elim
              (λ p. Member-append_left (take from labels) run l (s.from l p))
              (λ p. Member-append_right (take from labels) run l (f.from l p))
              (Member-append old front l m);
        });
      }

module _ {V : Type 0} (cmp : V → V → Ordering) (below same : V → V → Bool) (order : OrderLaws cmp below) (itself : (a : V) → same a a ≡ true)
    (between : (a b c : V) → below a b ≡ true → below b c ≡ true → same a c ≡ true → (same a b ≡ true) × (same b c ≡ true)) (trail : Link → List ℕ) where
  -- at most one label is its own front
  pub front-few : (labels : List (Label V)) → length labels < 2 → IsFrontOf cmp below trail labels labels
  front-few labels h =
      let k = rule_laws cmp below same order itself between Values in
      record {
        rises = few_rise cmp labels h;
        pool = few_pool below (is_same below) trail (below_order order) k.0 k.1 labels h;
        from = λ l m. m;
      }

  one_only : (labels : List (Label V)) (x : Label V) → 1 ≤ length labels → length labels < 2 → x ≡ get_or labels 0 x → labels ≡ x ∷ []
  one_only [] x h k e = absurd (omega arith)
  one_only (l ∷ []) x h k e = ap (λ z. z ∷ []) (sym e)
  one_only (l ∷ m ∷ ls) x h k e = absurd (omega arith)

  pub front-one : (labels old new : List (Label V)) (x : Label V) → 1 ≤ length labels → length labels < 2 → x ≡ get_or labels 0 x → new ≡ old ++ x ∷ []
      → (front : List (Label V)) × (new ≡ old ++ front) × IsFrontOf cmp below trail labels front
  front-one labels old new x h k e is = (labels, is ∙ ap (λ ls. old ++ ls) (sym (one_only labels x h k e)), front-few labels k)
