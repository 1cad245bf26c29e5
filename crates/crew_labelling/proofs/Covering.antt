-- The labelling is a covered pass, by key.
use Rattle.std.proofs.Common.{◌≡◌, ◌∙◌, ◌<◌, ◌≤◌, ◌++◌, ℕ, zero, suc, cond, List, [], ◌∷◌, Option, Some, None, length, map, get_or, inl, inr, refl, sym, ap, subst, ⊎_elim, arith}
use Rattle.std.specs.Prelude.{slice_get}
use Rattle.std.specs.Ordering.{eq_by_cmp}
use Rattle.std.proofs.lemmas.Option.{cond_some}
use Rattle.crew_flights.specs.Codes.{code_cmp}
use Rattle.crew_forgetful.specs.Forgetful.{Covers}
use Rattle.crew_forgetful.specs.Sweeps.{Shown}
use Rattle.crew_label.specs.Tables.{Tabled}
use Rattle.crew_label.specs.Walks.{ranks_at_most, shown}
use Rattle.crew_label.specs.declared.label.Label.{Label}
use Rattle.crew_label.specs.declared.label.Link.{Link}
use Rattle.crew_label.proofs.RisingLists.{each-append}
use Rattle.crew_net.specs.Machinery.Numbered.{arrival_place, departure_place}
use Rattle.crew_net.specs.Positions.{in_order}
use Rattle.crew_net.proofs.Numbers.{arrival-at, at-arrival, at-departure, get-within, held-within, place-arrival}
use Rattle.crew_net.proofs.Orders.{arrivals-distinct, in-order-distinct, leaves-in}
use Rattle.crew_net.proofs.Slices.{get-at, member-got, member-place, past-none}
use Rattle.crew_pairing.specs.Events.{departure_of}
use Rattle.crew_pairing.specs.Keys.{walk_at_most}
use Rattle.crew_pairing.specs.Legs.{Leg}
use Rattle.crew_pairing.specs.declared.duty.Duty.{Duty}
use Rattle.crew_pairing.specs.declared.events.Arrival.{Arrival}
use Rattle.crew_pairing.specs.declared.events.Departure.{Departure}
use Rattle.crew_pool.specs.Ranks.{by_key}
use Rattle.crew_pool.proofs.RankLemmas.{pool_of_rising}
use Rattle.crew_resource.specs.Events.{Arriving, FromPools, Network, labelled}
use Rattle.crew_resource.specs.Labels.{IsLocal}
use Rattle.crew_resource.specs.Members.{Each, Member}
use Rattle.crew_resource.proofs.Members.{Member-flat_map_out, Member-map_in, Member-map_out}
use Rattle.crew_labelling.specs.Held.{AreHeld, IsHeld, trail_of}
use Rattle.crew_labelling.specs.Candidates.{Arrives, Waits, boarding}
use Rattle.crew_labelling.specs.Labellings.{Labelling, labelling_of, table_of}
use Rattle.crew_labelling.specs.Passes.{AreTold, IsCoveredBy, network_over, pass_of}
use Rattle.crew_labelling.specs.Terms.{AreLawful, AreTerms, IsPassable, Terms}
use Rattle.crew_labelling.proofs.Keyed.{boards-keyed, covers-keyed, duty_place, keyed, keys, rank-place}
use Rattle.crew_labelling.proofs.Labels.{labelled-out}
use Rattle.crew_labelling.proofs.Right.{arrivals-gathered, arrivals-held, arrivals-long, departures-gathered, departures-ready, fronts-are, fronts-held, fronts-long}
use Rattle.crew_labelling.proofs.Waiting.{covering}

module _ {V : Type 0} (w : Terms V) (terms : AreTerms w) (lawful : AreLawful w) where
  abbrev y : Labelling V
  y = labelling_of w

  abbrev t : Tabled V
  t = table_of w y

  abbrev fronts : List (List (Label V))
  fronts = y.fronts

  abbrev held : List (List (Label V))
  held = y.arrivals

  passable : IsPassable w.net w.leaves.positions
  passable = terms.passable

  abbrev trail : Link → List ℕ
  trail = trail_of t

  abbrev Keys : Type 0
  Keys = List (List Leg)

  abbrev n : ℕ
  n = length w.net.duties

  abbrev over : Network Duty V (List (List Leg)) Departure Arrival
  over = network_over w

  abbrev shows : List (List (Label V)) → ℕ → List (V × List ℕ)
  shows lists i = map (shown trail) (get_or lists i [])

  abbrev by : List (V × List ℕ) → List (V × List (List Leg))
  by = by_key w.net.duties

  -- the pools, by their departures; of arrivals, by these; and fronts by their duties
  abbrev pool-of : Departure → List (V × List (List Leg))
  pool-of g = by (shows t.pools (departure_place (in_order w.net) g))

  abbrev arrived-at : Departure → Arrival → List (V × List (List Leg))
  arrived-at g x = by (shows held (arrival_place w.net.arrivals x))

  abbrev front-of : Duty → List (V × List (List Leg))
  front-of d = by (shows fronts (duty_place w.net.duties d))

  leaves-at : (d : Duty) → Member w.net.duties d → slice_get (in_order w.net) (departure_place (in_order w.net) (departure_of d)) ≡ Some (departure_of d)
  leaves-at d known = at-departure (in_order w.net) (departure_of d) (leaves-in w.net passable.departs passable.ordered d known)

  position-is : (rank : ℕ) (d : Duty) → slice_get w.net.duties rank ≡ Some d → departure_place (in_order w.net) (departure_of d) ≡ get_or w.leaves.positions rank 0
  position-is rank d known = in-order-distinct w.net passable.departs passable.ordered (departure_place (in_order w.net) (departure_of d)) (get_or w.leaves.positions rank 0) (departure_of d)
      (leaves-at d (member-got w.net.duties rank d known)) (passable.are_positions.exact rank d known)

  place-is : (x : Arrival) (p : ℕ) → slice_get w.net.arrivals p ≡ Some x → arrival_place w.net.arrivals x ≡ p
  place-is x p h = place-arrival w.net.arrivals x p (arrivals-distinct w.net passable.arrives) h

  ranked-in : (lists : List (List (Label V))) (Bound : ℕ → V → Type 0) → ((i : ℕ) → AreHeld w Bound t (get_or lists i []))
      → (i : ℕ) (v : V) (k : List ℕ) → Member (shows lists i) (v, k) → Each (λ rank. rank < n) k
  ranked-in lists Bound h i v k m =
      let s = Member-map_out (shown trail) (get_or lists i []) (v, k) m in
      subst (λ (e : V × List ℕ). Each (λ rank. rank < n) e.1) s.2 (h i s.0 s.1).entry.ranked

  -- the entry of a list by key comes from one by rank
  unkeyed : (es : List (V × List ℕ)) (v : V) (k : List (List Leg)) → Member (by es) (v, k) → (l : List ℕ) × Member es (v, l) × (keys w.net.duties l ≡ k)
  unkeyed es v k m =
      let e = Member-map_out (keyed w.net.duties) es (v, k) m in
      (e.0.1, subst (λ (z : V). Member es (z, e.0.1)) (ap (λ (p : V × List (List Leg)). p.0) e.2) e.1, ap (λ (p : V × List (List Leg)). p.1) e.2)

  module _ (g : Departure) where
    waits-ranked : (v : V) (k : List ℕ) → Waits w trail held g v k → Each (λ rank. rank < n) k
    waits-ranked v k = ⊎_elim
        (λ c. subst (λ (z : List ℕ). Each (λ rank. rank < n) z) (sym c.0) tt)
        (λ c. ranked-in held w.arrived (arrivals-held w terms lawful) c.0 c.1.1 k c.1.4)

    waits-to : (v : V) (k : List ℕ) → Waits w trail held g v k → FromPools over (arrived-at g) g v (keys w.net.duties k)
    waits-to v k = ⊎_elim {C = FromPools over (arrived-at g) g v (keys w.net.duties k)}
        (λ c. inl (ap (keys w.net.duties) c.0, ap (λ b. cond b (Some (w.idle g)) None) c.1 ∙ ap (λ (z : V). Some z) c.2))
        (λ c.
        let p = place-is c.1.0 c.0 c.1.2 in
        inr (c.1.0, c.1.1, c.1.3, subst (λ m. Member (by (shows held m)) (c.1.1, keys w.net.duties k)) (sym p) (Member-map_in (keyed w.net.duties) (shows held c.0) (c.1.1, k) c.1.4), c.1.5))

    waits-from : (v : V) (k : List (List Leg)) → FromPools over (arrived-at g) g v k → (l : List ℕ) × Waits w trail held g v l × (keys w.net.duties l ≡ k)
    waits-from v k = ⊎_elim {C = (l : List ℕ) × Waits w trail held g v l × (keys w.net.duties l ≡ k)}
        (λ c. let b = cond_some (eq_by_cmp code_cmp g.airport w.base) (w.idle g) v c.1 in ([], inl (refl, b.0, b.1), sym c.0))
        (λ c.
        let p = arrival_place w.net.arrivals c.0 in
        let e = unkeyed (shows held p) c.1 k c.3 in
        let s = Member-map_out (shown trail) (get_or held p []) (c.1, e.0) e.1 in
        let long = arrivals-long w terms in
        let y = held-within held w.net.arrivals p s.0 (omega (arith, long)) s.1 in
        let here = y.1 ∙ ap (λ (z : Arrival). Some z) (arrival-at w.net.arrivals c.0 y.0 y.1) in
        (e.0, inr (p, (c.0, c.1, here, c.2, e.1, c.4)), e.2))

  module _ (x : Arrival) where
    abbrev Cand : V → List ℕ → Type 0
    Cand = Arrives w.net trail fronts x

    arrives-ranked : (v : V) (k : List ℕ) → Cand v k → Each (λ rank. rank < n) k
    arrives-ranked v k c = ranked-in fronts w.arrived (fronts-held w terms lawful) c.0 v k c.4

    arrives-to : (v : V) (k : List ℕ) → Cand v k → Arriving over front-of x v (keys w.net.duties k)
    arrives-to v k c =
        let p = rank-place w.net.duties passable.rise c.0 c.1 c.2 in
        (c.1, member-got w.net.duties c.0 c.1 c.2, c.3, subst (λ m. Member (by (shows fronts m)) (v, keys w.net.duties k)) (sym p) (Member-map_in (keyed w.net.duties) (shows fronts c.0) (v, k) c.4))

    arrives-from : (v : V) (k : List (List Leg)) → Arriving over front-of x v k → (l : List ℕ) × Cand v l × (keys w.net.duties l ≡ k)
    arrives-from v k c =
        let r = member-place w.net.duties c.0 c.1 in
        let p = rank-place w.net.duties passable.rise r.0 c.0 r.1 in
        let e = unkeyed (shows fronts r.0) v k (subst (λ m. Member (by (shows fronts m)) (v, k)) p c.3) in
        (e.0, (r.0, c.0, r.1, c.2, e.1), e.2)

    abbrev Goal : Type 0
    Goal = Covers w.below w.same ranks_at_most (λ v k. Member (shows held (arrival_place w.net.arrivals x)) (v, k)) Cand

    nothing-there : slice_get w.net.arrivals (arrival_place w.net.arrivals x) ≡ None → (v : V) (k : List ℕ) → Cand v k → ⊥
    nothing-there none v k c =
        let there = passable.arrives.every c.1 (member-got w.net.duties c.0 c.1 c.2) in
        let at = at-arrival w.net.arrivals x (subst (λ (z : Arrival). Member w.net.arrivals z) c.3 there) in
        (let bad : None ≡ Some x = sym none ∙ at in let q : ⊥ = (cc) in q)

    none-held : slice_get w.net.arrivals (arrival_place w.net.arrivals x) ≡ None → shows held (arrival_place w.net.arrivals x) ≡ []
    none-held none = ap (map (shown trail)) (past-none held (arrival_place w.net.arrivals x) (beyond w.net.arrivals (arrival_place w.net.arrivals x) held (arrivals-long w terms) none))
      where
        beyond : (xs : List Arrival) (p : ℕ) (hs : List (List (Label V))) → length hs ≡ length xs → slice_get xs p ≡ None → length hs ≤ p
        beyond xs p hs long none = let k = past xs p none in omega (arith, long, k)
          where
            past : (xs : List Arrival) (p : ℕ) → slice_get xs p ≡ None → length xs ≤ p
            past [] p h = omega arith
            past (y ∷ ys) zero h = absurd (let q : ⊥ = (cc) in q)
            past (y ∷ ys) (suc p) h = let k = past ys p h in omega (arith, k)

    by-place : (o : Option Arrival) → slice_get w.net.arrivals (arrival_place w.net.arrivals x) ≡ o → Goal
    by-place None none = record {
      part = λ v k m. absurd (subst (λ (es : List (V × List ℕ)). Member es (v, k)) (none-held none) m);
      under = λ v k c. absurd (nothing-there none v k c);
    }
    by-place (Some z) at =
        let same = arrival-at w.net.arrivals x z at in
        covering w trail Cand (get_or held (arrival_place w.net.arrivals x) []) (arrivals-gathered w terms lawful (arrival_place w.net.arrivals x) x (at ∙ ap (λ (z : Arrival). Some z) same))

    arrived-covers : Goal
    arrived-covers = by-place (slice_get w.net.arrivals (arrival_place w.net.arrivals x)) refl

  boarded-ranked : (rank : ℕ) (d : Duty) → slice_get w.net.duties rank ≡ Some d → (e : V × List ℕ) → Member (boarding w d rank (shows t.pools (get_or w.leaves.positions rank 0))) e → Each (λ r. r < n) e.1
  boarded-ranked rank d known e m =
      let boards = λ (z : V × List ℕ). labelled (w.board z.0 d) (z.1 ++ rank ∷ []) in
      let s = Member-flat_map_out boards (shows t.pools (get_or w.leaves.positions rank 0)) e m in
      let k = labelled-out (w.board s.0.0 d) (s.0.1 ++ rank ∷ []) e s.2 in
      subst (λ (z : List ℕ). Each (λ r. r < n) z) (sym k.1)
      (each-append (λ r. r < n) s.0.1 rank (ranked-in t.pools w.ready (departures-ready w terms lawful) (get_or w.leaves.positions rank 0) s.0.0 s.0.1 s.1) (get-within w.net.duties rank d known))

  filtered-by : (rank : ℕ) (d : Duty) → slice_get w.net.duties rank ≡ Some d → IsLocal w.below walk_at_most (Shown over (pool-of (departure_of d)) d) (front-of d)
  filtered-by rank d known =
      let local = fronts-are w terms lawful rank d known in
      let position = get_or w.leaves.positions rank 0 in
      let pool = shows t.pools position in
      let by-keys = pool_of_rising w.below w.net.duties (boarding w d rank pool) (shows fronts rank) passable.rise (boarded-ranked rank d known) local in
      let view = boards-keyed w.net.duties passable.rise (λ v. w.board v d) rank d known pool in
      let own = subst (λ (es : List (V × List (List Leg))). IsLocal w.below walk_at_most (λ v k. Member es (v, k)) (by (shows fronts rank))) view by-keys in
      let there = subst (λ m. IsLocal w.below walk_at_most (Shown over (by (shows t.pools m)) d) (by (shows fronts rank))) (sym (position-is rank d known)) own in
      subst (λ m. IsLocal w.below walk_at_most (Shown over (pool-of (departure_of d)) d) (by (shows fronts m))) (sym (rank-place w.net.duties passable.rise rank d known)) there

  pub covered-by : IsCoveredBy w.below w.same (network_over w) (pass_of w (labelling_of w))
  covered-by = record {
    pools = pool-of;
    arrivals = arrived-at;
    fronts = front-of;
    told = λ rank d known. ap (λ m. by (shows fronts m)) (rank-place w.net.duties passable.rise rank d known);
    covered = record {
      pooled = λ d known.
          let g = departure_of d in
          let i = departure_place (in_order w.net) g in
          covers-keyed w.net.duties passable.rise w.below w.same (Waits w trail held g) (FromPools over (arrived-at g) g) (shows t.pools i)
          (waits-ranked g) (waits-to g) (waits-from g) (covering w trail (Waits w trail held g) (get_or t.pools i []) (departures-gathered w terms lawful i g (leaves-at d known)));
      arrived = λ d x known opens.
          covers-keyed w.net.duties passable.rise w.below w.same (Cand x) (Arriving over front-of x) (shows held (arrival_place w.net.arrivals x))
          (arrives-ranked x) (arrives-to x) (arrives-from x) (arrived-covers x);
      filtered = λ d known. let r = member-place w.net.duties d known in filtered-by r.0 d r.1;
    };
  }

  -- and each duty has a front of labels with walks
  pub told : AreTold (pass_of w (labelling_of w))
  told = record {
    long = fronts-long w terms;
    leading = λ labels l m k. (of-any labels l m k).leading;
    ranked = λ labels l m k. (of-any labels l m k).entry.ranked;
  }
    where
      of-any : (labels : List (Label V)) (l : Label V) → Member fronts labels → Member labels l → IsHeld w w.arrived t l
      of-any labels l m k =
          let place = member-place fronts labels m in
          fronts-held w terms lawful place.0 l (subst (λ (ls : List (Label V)). Member ls l) (sym (get-at fronts place.0 labels [] place.1)) k)
