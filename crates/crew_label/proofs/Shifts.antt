-- Where nothing is forgotten, labels that board and labels that wait need no filter.
use Rattle.std.proofs.Common.{◌≡◌, ℕ, Bool, true, List, [], ◌∷◌, ◌++◌, Option, Some, None, map, inl, inr, sym, ◌∙◌, ap, subst, Ordering}
use Rattle.std.specs.List.{flat_map}
use Rattle.crew_resource.specs.Events.{labelled}
use Rattle.crew_resource.specs.Labels.{IsLocal}
use Rattle.crew_resource.specs.Members.{Member}
use Rattle.crew_resource.specs.Resource.{OrderLaws}
use Rattle.crew_resource.proofs.Members.{Member-flat_map_out, Member-map_in, Member-map_out}
use Rattle.crew_resource.proofs.Values.{below_order}
use Rattle.crew_forgetful.specs.Forgetful.{IsPool, StandsFor}
use Rattle.crew_forgetful.proofs.Covered.{local_from_pool, stands_refl}
use Rattle.crew_label.specs.Boarding.{LeadInto, boarded_from, waited_label}
use Rattle.crew_label.specs.Pools.{ArePoolOf}
use Rattle.crew_label.specs.Walks.{ranks_at_most, shown, walk_of}
use Rattle.crew_label.specs.declared.label.Label.{Label}
use Rattle.crew_label.specs.declared.label.Link.{Link}
use Rattle.crew_label.proofs.Boarded.{boarded_entries}
use Rattle.crew_label.proofs.MergedPools.{ranks_order, ranks_total}

labelled_out : {V W : Type 0} (o : Option V) (w : W) (v : V) (y : W) → Member (labelled o w) (v, y) → (o ≡ Some v) × (w ≡ y)
labelled_out None w v y h = absurd h
labelled_out (Some u) w v y (inl e) = (ap (λ p. Some p.0) e, ap (λ p. p.1) e)
labelled_out (Some u) w v y (inr h) = absurd h

some_same : {V : Type 0} (a b : V) → Some a ≡ Some b → a ≡ b
some_same a b e = (cc)

module _ {V : Type 0} (cmp : V → V → Ordering) (below same : V → V → Bool) (order : OrderLaws cmp below) (itself : (a : V) → same a a ≡ true)
    (between : (a b c : V) → below a b ≡ true → below b c ≡ true → same a c ≡ true → (same a b ≡ true) × (same b c ≡ true))
    (plain : (a b : V) → below a b ≡ true → same a b ≡ true → a ≡ b) where
  -- the labels of a pool are none above another by values
  plain_alone : (C : V → List ℕ → Type 0) (entries : List (V × List ℕ)) → IsPool below same ranks_at_most C entries → IsLocal below ranks_at_most C entries
  plain_alone C entries i = local_from_pool V (List ℕ) below same ranks_at_most (below_order order) ranks_order itself between plain ranks_total C entries i

  module _ (board : V → Option V) (duty rank : ℕ) (reflects : (a b y z : V) → board a ≡ Some y → board b ≡ Some z → below y z ≡ true → below a b ≡ true) where
    boards : V × List ℕ → List (V × List ℕ)
    boards e = labelled (board e.0) (e.1 ++ rank ∷ [])

    view_alone : (C : V → List ℕ → Type 0) (entries : List (V × List ℕ)) → IsPool below same ranks_at_most C entries
        → (v : V) (w : List ℕ) (x : V) (y : List ℕ) → Member (flat_map boards entries) (v, w) → Member (flat_map boards entries) (x, y) → below v x ≡ true → (v ≡ x) × (w ≡ y)
    unfolding boards
    view_alone C entries i v w x y m n h =
        let a = Member-flat_map_out boards entries (v, w) m in
        let b = Member-flat_map_out boards entries (x, y) n in
        let p = labelled_out (board a.0.0) (a.0.1 ++ rank ∷ []) v w a.2 in
        let q = labelled_out (board b.0.0) (b.0.1 ++ rank ∷ []) x y b.2 in
        let e = (plain_alone C entries i).alone a.0.0 a.0.1 b.0.0 b.0.1 a.1 b.1 (reflects a.0.0 b.0.0 v x p.0 q.0 h) in (
          some_same v x (sym p.0 ∙ (ap board e.0 ∙ q.0)),
          sym p.1 ∙ (ap (λ z. z ++ rank ∷ []) e.1 ∙ q.1),
        )

    view_front : (C : V → List ℕ → Type 0) (entries : List (V × List ℕ)) → IsPool below same ranks_at_most C entries
        → IsLocal below ranks_at_most (λ v w. Member (flat_map boards entries) (v, w)) (flat_map boards entries)
    view_front C entries i = record {
      among = λ v w m. m;
      covers = λ x y m. (x, y, m, order.reflexive x, λ _. ranks_order.reflexive y);
      alone = view_alone C entries i;
    }

    pub boarded_front : (leads : Link → Bool) (trail : Link → List ℕ) (candidates : List (V × List ℕ)) (pool : List (Label V)) → LeadInto leads trail duty rank pool → ArePoolOf below same trail candidates pool
        → IsLocal below ranks_at_most (λ v w. Member (map (shown trail) (boarded_from board duty 0 pool)) (v, w)) (map (shown trail) (boarded_from board duty 0 pool))
    unfolding boards
    boarded_front leads trail candidates pool h i =
        subst (λ (es : List (V × List ℕ)). IsLocal below ranks_at_most (λ v w. Member es (v, w)) es) (sym (boarded_entries board duty leads trail rank pool h))
        (view_front (λ v w. Member candidates (v, w)) (map (shown trail) pool) i)

  module _ (wait : V → V) (reflects : (a b : V) → below (wait a) (wait b) ≡ true → below a b ≡ true) where
    waited_alone : (trail : Link → List ℕ) (candidates : List (V × List ℕ)) (pool : List (Label V)) → ArePoolOf below same trail candidates pool
        → (a b : Label V) → Member pool a → Member pool b → StandsFor below same ranks_at_most (wait a.value) (walk_of trail a.before) (wait b.value) (walk_of trail b.before)
        → shown trail (waited_label wait a) ≡ shown trail (waited_label wait b)
    waited_alone trail candidates pool i a b p q s =
        let e = (plain_alone (λ v w. Member candidates (v, w)) (map (shown trail) pool) i).alone a.value (walk_of trail a.before) b.value (walk_of trail b.before)
        (Member-map_in (shown trail) pool a p) (Member-map_in (shown trail) pool b q) (reflects a.value b.value s.0) in
        ap (λ v. (wait v, walk_of trail a.before)) e.0 ∙ ap (λ w. (wait b.value, w)) e.1

    pub waited_pool : (trail : Link → List ℕ) (candidates : List (V × List ℕ)) (pool : List (Label V)) → ArePoolOf below same trail candidates pool
        → ArePoolOf below same trail (map (shown trail) (map (waited_label wait) pool)) (map (waited_label wait) pool)
    waited_pool trail candidates pool i =
        let labels = map (waited_label wait) pool in record {
          among = λ v w m. m;
          covers = λ x y m. (x, y, m, stands_refl V (List ℕ) below same ranks_at_most (below_order order) ranks_order itself between x y);
          alone = λ v w x y m n s.
              let a = Member-map_out (shown trail) labels (v, w) m in
              let b = Member-map_out (shown trail) labels (x, y) n in
              let c = Member-map_out (waited_label wait) pool a.0 a.1 in
              let d = Member-map_out (waited_label wait) pool b.0 b.1 in
              let one : shown trail (waited_label wait c.0) ≡ (v, w) = ap (shown trail) c.2 ∙ a.2 in
              let two : shown trail (waited_label wait d.0) ≡ (x, y) = ap (shown trail) d.2 ∙ b.2 in
              let P : V × List ℕ → V × List ℕ → Type 0 = λ p q. StandsFor below same ranks_at_most p.0 p.1 q.0 q.1 in
              let t = subst (λ p. P p (shown trail (waited_label wait d.0))) (sym one) (subst (P (v, w)) (sym two) s) in
              let e : (v, w) ≡ (x, y) = sym one ∙ (waited_alone trail candidates pool i c.0 d.0 c.1 d.1 t ∙ two) in
              (ap (λ p. p.0) e, ap (λ p. p.1) e);
        }
