-- Fronts of all nodes of a graph whose arcs raise a rank.
use Rattle.std.proofs.Common.{◌≡◌, ℕ, zero, suc, ◌+◌, ◌<◌, Bool, true, false, not, List, [], ◌∷◌, ◌++◌, Option, Some, None, ◌⊎◌, inl, inr, refl, sym, ◌∙◌, ap, subst, ⊎_elim, arith}
use Rattle.std.specs.List.{filter, flat_map, list_any}
use Rattle.std.proofs.lemmas.Bool.{cases_Bool, false≢true, not-true, not_from_false}
use Rattle.crew_resource.specs.Members.{Member}
use Rattle.crew_resource.specs.Labels.{Undominated, IsFront, IsLocal}
use Rattle.crew_resource.proofs.Order.{IsOrder}
use Rattle.crew_resource.proofs.Step.{Step, Rules, Covers, step_covers, step_front}
use Rattle.crew_resource.proofs.Offers.{More, IsLocal-beaten, IsLocal-kept, IsLocal-tied}
use Rattle.crew_resource.proofs.Members.{Member-append, Member-append_left, Member-append_right, Member-filter_in, Member-filter_out, Member-flat_map_in, Member-flat_map_out, list_any_true, list_any_false}

-- the entries of a list of candidates
module _ (V W : Type 0) (le : V → V → Bool) (wle : W → W → Bool) (order : IsOrder le) (walks : IsOrder wle) (total : (a b : W) → wle a b ≡ false → wle b a ≡ true) where
  grow_kept : (C : V → W → Type 0) (old : List (V × W)) (v : V) (w : W) → IsLocal le wle C old
      → list_any (λ e. le e.0 v) old ≡ false
      → (new : List (V × W)) × IsLocal le wle (More V W le wle order walks C v w) new
  grow_kept C old v w i none =
      let new : List (V × W) = filter (λ e. not (le v e.0)) old ++ (v, w) ∷ [] in (
        new,
        IsLocal-kept V W le wle order walks C old new v w i
            (λ x y m. list_any_false (λ e. le e.0 v) old none (x, y) m)
            (λ x y m. ⊎_elim
            (λ k. let q = Member-filter_out (λ e. not (le v e.0)) old (x, y) k in inr (q.0, not-true (le v x) q.1))
            (⊎_elim (λ e. inl (ap (λ p. p.0) (sym e), ap (λ p. p.1) (sym e))) (λ b. absurd b))
            (Member-append (filter (λ e. not (le v e.0)) old) ((v, w) ∷ []) (x, y) m))
            (λ x y m f. Member-append_left (filter (λ e. not (le v e.0)) old) ((v, w) ∷ []) (x, y) (Member-filter_in (λ e. not (le v e.0)) old (x, y) m (not_from_false (le v x) f)))
            (Member-append_right (filter (λ e. not (le v e.0)) old) ((v, w) ∷ []) (v, w) (inl refl)),
      )

  grow_tied : (C : V → W → Type 0) (old : List (V × W)) (v : V) (w was now : W) → IsLocal le wle C old
      → Member old (v, was) → (now ≡ was) ⊎ (now ≡ w) → wle now was ≡ true → wle now w ≡ true
      → (new : List (V × W)) × IsLocal le wle (More V W le wle order walks C v w) new
  grow_tied C old v w was now i there one_of l1 l2 =
      let new : List (V × W) = filter (λ e. not (le v e.0)) old ++ (v, now) ∷ [] in (
        new,
        IsLocal-tied V W le wle order walks C old new v w was now i there one_of l1 l2
            (λ x y m. ⊎_elim
            (λ k.
            let q = Member-filter_out (λ e. not (le v e.0)) old (x, y) k in
            inr (q.0, λ e. false≢true (sym (not-true (le v x) q.1) ∙ (ap (le v) e ∙ order.reflexive v))))
            (⊎_elim (λ e. inl (ap (λ p. p.0) (sym e), ap (λ p. p.1) (sym e))) (λ b. absurd b))
            (Member-append (filter (λ e. not (le v e.0)) old) ((v, now) ∷ []) (x, y) m))
            (λ x y m. ⊎_elim
            (λ t. inl (sym (i.alone v was x y there m t).0))
            (λ f. inr (Member-append_left (filter (λ e. not (le v e.0)) old) ((v, now) ∷ []) (x, y) (Member-filter_in (λ e. not (le v e.0)) old (x, y) m (not_from_false (le v x) f))))
            (cases_Bool (le v x)))
            (Member-append_right (filter (λ e. not (le v e.0)) old) ((v, now) ∷ []) (v, now) (inl refl)),
      )

  grow : (C : V → W → Type 0) (old : List (V × W)) (v : V) (w : W) → IsLocal le wle C old
      → (new : List (V × W)) × IsLocal le wle (More V W le wle order walks C v w) new
  grow C old v w i =
      ⊎_elim
      (λ t.
      let k = list_any_true (λ e. le e.0 v) old t in
      ⊎_elim
      (λ back.
      let same : k.0.0 ≡ v = order.antisymmetric k.0.0 v k.2 back in
      let there : Member old (v, k.0.1) = subst (λ z. Member old (z, k.0.1)) same k.1 in
      ⊎_elim
      (λ s. grow_tied C old v w k.0.1 k.0.1 i there (inl refl) (walks.reflexive k.0.1) s)
      (λ s. grow_tied C old v w k.0.1 w i there (inr refl) (total k.0.1 w s) (walks.reflexive w))
      (cases_Bool (wle k.0.1 w)))
      (λ front. (old, IsLocal-beaten V W le wle order walks C old v w i k.0.0 k.0.1 k.1 (k.2, λ e. false≢true (sym front ∙ (ap (le v) e ∙ order.reflexive v)))))
      (cases_Bool (le v k.0.0)))
      (grow_kept C old v w i)
      (cases_Bool (list_any (λ e. le e.0 v) old))

  same_candidates : (C D : V → W → Type 0) (entries : List (V × W)) → ((v : V) (w : W) → C v w → D v w) → ((v : V) (w : W) → D v w → C v w) → IsLocal le wle C entries → IsLocal le wle D entries
  same_candidates C D entries f g i = record { among = λ v w m. f v w (i.among v w m); covers = λ x y d. i.covers x y (g x y d); alone = i.alone }

  pub local_of : (candidates : List (V × W)) → (entries : List (V × W)) × IsLocal le wle (λ v w. Member candidates (v, w)) entries
  local_of [] = ([], record { among = λ v w m. m; covers = λ x y m. absurd m; alone = λ v w x y m. absurd m })
  local_of (c ∷ cs) =
      let rest = local_of cs in
      let more = grow (λ v w. Member cs (v, w)) rest.0 c.0 c.1 rest.1 in (
        more.0,
        same_candidates (More V W le wle order walks (λ v w. Member cs (v, w)) c.0 c.1) (λ v w. Member (c ∷ cs) (v, w)) more.0
            (λ v w. ⊎_elim inr (λ e. inl (ap (λ z. (z, c.1)) (sym e.0) ∙ ap (λ z. (v, z)) (sym e.1))))
            (λ v w. ⊎_elim (λ e. inr (ap (λ p. p.0) (sym e), ap (λ p. p.1) (sym e))) inl)
            more.1,
      )

module _ (N V W : Type 0) (one : N → W) (more : W → N → W) (opens : N → Option V) (ext : V → N → N → Option V) (preds : N → List N)
    (le : V → V → Bool) (wle : W → W → Bool) (At Clean : N → V → W → Type 0)
    (rules : Rules N V W one more opens ext (λ e d. Member (preds d) e) le wle At Clean)
    (rank : N → ℕ) (rises : (e d : N) → Member (preds d) e → rank e < rank d) where
  -- the entries of a node are the local ones, given those of the nodes before
  abbrev pub LocalAt : (N → List (V × W)) → N → List (V × W) → Type 0
  LocalAt fronts d entries = IsLocal le wle (Step N V W one more opens ext (λ e d. Member (preds d) e) (λ e u y. Member (fronts e) (u, y)) d) entries

  abbrev pub Right : N → List (V × W) → Type 0
  Right d entries = IsFront le wle (At d) (Clean d) entries × Covers N V W one more opens ext (λ e d. Member (preds d) e) le (At d) entries

  right_step : (fronts : N → List (V × W)) (d : N) (entries : List (V × W)) → ((e : N) → Member (preds d) e → Right e (fronts e)) → LocalAt fronts d entries → Right d entries
  right_step fronts d entries before local = (
    step_front N V W one more opens ext (λ e d. Member (preds d) e) le wle At Clean rules fronts d entries (λ e a. (before e a).0) (λ e a. (before e a).1) local,
    step_covers N V W one more opens ext (λ e d. Member (preds d) e) le wle At Clean rules fronts d entries (λ e a. (before e a).0) (λ e a. (before e a).1) local,
  )

  right_below : (fronts : N → List (V × W)) → ((d : N) → LocalAt fronts d (fronts d)) → (n : ℕ) (d : N) → rank d < n → Right d (fronts d)
  right_below fronts local zero d h = absurd (omega arith)
  right_below fronts local (suc n) d h =
      right_step fronts d (fronts d) (λ e a. let r : rank e < rank d = rises e d a in right_below fronts local n e (omega arith)) (local d)

  -- where each node's entries are the local ones, each node's entries are its front
  pub all_right : (fronts : N → List (V × W)) → ((d : N) → LocalAt fronts d (fronts d)) → (d : N) → Right d (fronts d)
  all_right fronts local d = right_below fronts local (rank d + 1) d (omega arith)

  module _ (total : (a b : W) → wle a b ≡ false → wle b a ≡ true) where
    -- the opening, and each extension of an entry of a node before
    abbrev pub extended : N → N → V × W → List (V × W)
    extended d e p = elim (ext p.0 e d) [ None ↦ [] | Some v ↦ (v, more p.1 d) ∷ [] ]

    abbrev pub opened : N → List (V × W)
    opened d = elim (opens d) [ None ↦ [] | Some v ↦ (v, one d) ∷ [] ]

    abbrev pub candidates : (N → List (V × W)) → N → List (V × W)
    candidates fronts d = opened d ++ flat_map (λ e. flat_map (extended d e) (fronts e)) (preds d)

    abbrev pub Candidate : (N → List (V × W)) → N → V → W → Type 0
    Candidate fronts d = Step N V W one more opens ext (λ e d. Member (preds d) e) (λ e u y. Member (fronts e) (u, y)) d

    opened_out : (d : N) (o : Option V) (v : V) (w : W) → Member (elim o as (λ _. List (V × W)) [ None ↦ [] | Some x ↦ (x, one d) ∷ [] ]) (v, w) → (w ≡ one d) × (o ≡ Some v)
    opened_out d None v w m = absurd m
    opened_out d (Some x) v w (inl e) = (ap (λ p. p.1) (sym e), ap (λ p. Some p.0) e)
    opened_out d (Some x) v w (inr b) = absurd b

    opened_in : (d : N) (o : Option V) (v : V) (w : W) → w ≡ one d → o ≡ Some v → Member (elim o as (λ _. List (V × W)) [ None ↦ [] | Some x ↦ (x, one d) ∷ [] ]) (v, w)
    opened_in d None v w a e = absurd (let q : ⊥ = (cc) in q)
    opened_in d (Some x) v w a e = inl (let q : x ≡ v = (cc) in ap (λ z. (z, one d)) q ∙ ap (λ z. (v, z)) (sym a))

    extended_out : (d : N) (o : Option V) (y : W) (v : V) (w : W) → Member (elim o as (λ _. List (V × W)) [ None ↦ [] | Some x ↦ (x, more y d) ∷ [] ]) (v, w) → (o ≡ Some v) × (w ≡ more y d)
    extended_out d None y v w m = absurd m
    extended_out d (Some x) y v w (inl e) = (ap (λ p. Some p.0) e, ap (λ p. p.1) (sym e))
    extended_out d (Some x) y v w (inr b) = absurd b

    extended_in : (d : N) (o : Option V) (y : W) (v : V) (w : W) → o ≡ Some v → w ≡ more y d → Member (elim o as (λ _. List (V × W)) [ None ↦ [] | Some x ↦ (x, more y d) ∷ [] ]) (v, w)
    extended_in d None y v w e a = absurd (let q : ⊥ = (cc) in q)
    extended_in d (Some x) y v w e a = inl (let q : x ≡ v = (cc) in ap (λ z. (z, more y d)) q ∙ ap (λ z. (v, z)) (sym a))

    candidates_out : (fronts : N → List (V × W)) (d : N) (v : V) (w : W) → Member (candidates fronts d) (v, w) → Candidate fronts d v w
    candidates_out fronts d v w m = ⊎_elim
        (λ o. inl (opened_out d (opens d) v w o))
        (λ r.
        let a = Member-flat_map_out (λ e. flat_map (extended d e) (fronts e)) (preds d) (v, w) r in
        let b = Member-flat_map_out (extended d a.0) (fronts a.0) (v, w) a.2 in
        let k = extended_out d (ext b.0.0 a.0 d) b.0.1 v w b.2 in
        inr (a.0, b.0.0, b.0.1, a.1, b.1, k.0, k.1))
        (Member-append (opened d) (flat_map (λ e. flat_map (extended d e) (fronts e)) (preds d)) (v, w) m)

    candidates_in : (fronts : N → List (V × W)) (d : N) (v : V) (w : W) → Candidate fronts d v w → Member (candidates fronts d) (v, w)
    candidates_in fronts d v w (inl o) = Member-append_left (opened d) (flat_map (λ e. flat_map (extended d e) (fronts e)) (preds d)) (v, w) (opened_in d (opens d) v w o.0 o.1)
    candidates_in fronts d v w (inr s) =
        Member-append_right (opened d) (flat_map (λ e. flat_map (extended d e) (fronts e)) (preds d)) (v, w)
        (Member-flat_map_in (λ e. flat_map (extended d e) (fronts e)) (preds d) s.0 (v, w) s.3
        (Member-flat_map_in (extended d s.0) (fronts s.0) (s.1, s.2) (v, w) s.4 (extended_in d (ext s.1 s.0 d) s.2 v w s.5 s.6)))

    -- the entries of a node, worked out to a depth
    pub front_to : ℕ → N → List (V × W)
    front_to zero d = []
    front_to (suc n) d = (local_of V W le wle rules.order rules.walks total (candidates (front_to n) d)).0

    front_to_right : (n : ℕ) (d : N) → rank d < n → Right d (front_to n d)
    unfolding front_to
    front_to_right zero d h = absurd (omega arith)
    front_to_right (suc n) d h =
        let local = local_of V W le wle rules.order rules.walks total (candidates (front_to n) d) in
        right_step (front_to n) d local.0 (λ e a. let r : rank e < rank d = rises e d a in front_to_right n e (omega arith))
        (same_candidates V W le wle rules.order rules.walks total (λ v w. Member (candidates (front_to n) d) (v, w)) (Candidate (front_to n) d) local.0
        (candidates_out (front_to n) d) (candidates_in (front_to n) d) local.1)

    -- each node has a front
    pub some_front : (d : N) → (entries : List (V × W)) × Right d entries
    some_front d = (front_to (rank d + 1) d, front_to_right (rank d + 1) d (omega arith))

    -- each undominated vector has a clean walk
    pub clean_of_undominated : (d : N) (v : V) → Undominated le (At d) v → (w : W) × Clean d v w
    clean_of_undominated d v u =
        let f = some_front d in
        let e = f.1.0.every v u in
        (e.0, f.1.0.clean v e.0 e.1)

    -- under each partial lies an undominated vector
    pub undominated_below : (d : N) (x : V) (y : W) → At d x y → (v : V) × Undominated le (At d) v × (le v x ≡ true)
    undominated_below d x y a =
        let f = some_front d in
        let k = f.1.1 x y a in
        (k.0, f.1.0.undominated k.0 k.1 k.2, k.3)

    -- any front covers
    pub covers_from_front : (d : N) (entries : List (V × W)) → IsFront le wle (At d) (Clean d) entries → (x : V) (y : W) → At d x y → (v : V) × (w : W) × Member entries (v, w) × (le v x ≡ true)
    covers_from_front d entries f x y a =
        let u = undominated_below d x y a in
        let e = f.every u.0 u.1 in
        (u.0, e.0, e.1, u.2)

    -- two fronts of a node have the same entries
    pub front_unique : (d : N) (es fs : List (V × W)) → IsFront le wle (At d) (Clean d) es → IsFront le wle (At d) (Clean d) fs → (v : V) (w : W) → Member es (v, w) → Member fs (v, w)
    front_unique d es fs f g v w m =
        let e = g.every v (f.undominated v w m) in
        let same : e.0 ≡ w = rules.walks.antisymmetric e.0 w (g.least v e.0 w e.1 (f.clean v w m)) (f.least v w e.0 m (g.clean v e.0 e.1)) in
        subst (λ z. Member fs (v, z)) same e.1
