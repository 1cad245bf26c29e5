-- What the pools of departures make: the fronts of duties, the pools of arrivals, and the pool of a departure more.
use Rattle.std.proofs.Common.{◌≡◌, ◌∙◌, ◌≤◌, ◌+◌, ◌⊎◌, ℕ, zero, suc, Bool, true, List, [], ◌∷◌, Option, Some, length, map, get_or, inl, inr, refl, sym, ap, subst, ⊎_elim, arith}
use Rattle.std.specs.Prelude.{slice_get}
use Rattle.std.specs.List.{filter, flat_map}
use Rattle.std.specs.Ordering.{eq_by_cmp}
use Rattle.std.proofs.lemmas.Bool.{and_from, and_parts}
use Rattle.crew_flights.specs.Codes.{code_cmp}
use Rattle.crew_forgetful.specs.Machinery.Sums.{is_same}
use Rattle.crew_label.specs.Boarding.{LeadInto, boarded_from, waited_label}
use Rattle.crew_label.specs.Pools.{ArePoolOf, AreRising}
use Rattle.crew_label.specs.Tables.{Tabled}
use Rattle.crew_label.specs.Walks.{ranks_at_most, shown}
use Rattle.crew_label.specs.declared.label.Label.{Label}
use Rattle.crew_label.specs.declared.label.Link.{Link}
use Rattle.crew_label.proofs.Boarded.{boarded_counted, boarded_entries}
use Rattle.crew_label.proofs.FrontPools.{front_from_pool, front_itself}
use Rattle.crew_label.proofs.Tabled.{links_into}
use Rattle.crew_net.specs.Events.{arrives_at}
use Rattle.crew_net.specs.Ranks.{ranks_where}
use Rattle.crew_net.proofs.ArrivalPlaces.{ranks-in, ranks-out}
use Rattle.crew_net.proofs.Numbers.{arrival-itself, get-within, same-arrival}
use Rattle.crew_net.proofs.Slices.{at-within, get-at, map-get, member-got, member-place, past-none}
use Rattle.crew_pairing.specs.Events.{arrival_of, may_wait}
use Rattle.crew_pairing.specs.declared.duty.Duty.{Duty}
use Rattle.crew_pairing.specs.declared.events.Arrival.{Arrival}
use Rattle.crew_pairing.specs.declared.events.Departure.{Departure}
use Rattle.crew_resource.specs.Labels.{IsLocal}
use Rattle.crew_resource.specs.Members.{Member}
use Rattle.crew_resource.specs.Stages.{CountingLaws}
use Rattle.crew_resource.proofs.Members.{Member-append, Member-append_left, Member-append_right, Member-filter_in, Member-filter_out, Member-flat_map_in, Member-flat_map_out, Member-map_in, Member-map_out}
use Rattle.crew_labelling.specs.Candidates.{AreFront, AreGathered, Arrives, IsRested, Waits, boarding, idle_labels}
use Rattle.crew_labelling.specs.Held.{AreReady, HaveArrived, IsHeld, leads_of, trail_of}
use Rattle.crew_labelling.specs.Labellings.{arrival_pool, arriving_labels, departure_pool, front_of, fronts_from, fronts_of, pool_among, rested_pool, waited_labels, waiting_labels}
use Rattle.crew_labelling.specs.Terms.{AreLawful, AreTerms, Terms, number_of}
use Rattle.crew_labelling.proofs.Labels.{boarded-held, counted, shown-waited, waited-held}
use Rattle.crew_labelling.proofs.Numbered.{number-told}
use Rattle.crew_labelling.proofs.PoolOf.{pool_from, pool_is, pool_rises}
use Rattle.crew_labelling.proofs.Resting.{rest-held}
use Rattle.crew_labelling.proofs.Sound.{AreSound, tabled}
use Rattle.crew_labelling.proofs.Stays.{at-held}
use Rattle.crew_labelling.proofs.Waiting.{follows, idle-held, idle-in, idle-out}

-- something stands there, or it is past the end
pub at-or-past : {A : Type 0} (xs : List A) (i : ℕ) → ((a : A) × (slice_get xs i ≡ Some a)) ⊎ (length xs ≤ i)
at-or-past [] i = inr (omega arith)
at-or-past (x ∷ xs) zero = inl (x, refl)
at-or-past {A} (x ∷ xs) (suc i) = ⊎_elim {C = ((a : A) × (slice_get xs i ≡ Some a)) ⊎ (suc (length xs) ≤ suc i)} inl (λ h. inr (omega (arith, h))) (at-or-past xs i)

-- what is made of what stands there
pub made-at : {A B : Type 0} (f : A → List B) (xs : List A) (i : ℕ) (x : A) → slice_get xs i ≡ Some x → get_or (map f xs) i [] ≡ f x
made-at f xs i x at = get-at (map f xs) i (f x) [] (map-get f xs i x at)

module _ {V : Type 0} (w : Terms V) (pools : List (List (Label V))) where
  fronts-from-at : (n : ℕ) (ds : List Duty) (k : ℕ) (d : Duty) → slice_get ds k ≡ Some d → get_or (fronts_from w pools n ds) k [] ≡ front_of w pools (n + k) d
  fronts-from-at n [] k d e = absurd (let q : ⊥ = (cc) in q)
  fronts-from-at n (x ∷ ds) zero d e =
      let same : x ≡ d = (cc) in
      let sum : n ≡ n + 0 = omega arith in
      ap (front_of w pools n) same ∙ ap (λ (r : ℕ). front_of w pools r d) sum
  fronts-from-at n (x ∷ ds) (suc k) d e =
      let sum : suc n + k ≡ n + suc k = omega arith in
      fronts-from-at (suc n) ds k d e ∙ ap (λ (r : ℕ). front_of w pools r d) sum

  -- each duty's front stands at its rank
  pub front-at : (rank : ℕ) (d : Duty) → slice_get w.net.duties rank ≡ Some d → get_or (fronts_of w pools) rank [] ≡ front_of w pools rank d
  front-at rank d known =
      let sum : 0 + rank ≡ rank = omega arith in
      fronts-from-at 0 w.net.duties rank d known ∙ ap (λ (r : ℕ). front_of w pools r d) sum

  fronts-from-long : (n : ℕ) (ds : List Duty) → length (fronts_from w pools n ds) ≡ length ds
  fronts-from-long n [] = refl
  fronts-from-long n (d ∷ ds) = ap suc (fronts-from-long (suc n) ds)

  -- there is one for each
  pub fronts-long : length (fronts_of w pools) ≡ length w.net.duties
  fronts-long = fronts-from-long 0 w.net.duties

module _ {V : Type 0} (w : Terms V) (terms : AreTerms w) (lawful : AreLawful w) (pools : List (List (Label V))) (sound : AreSound w pools) where
  abbrev t : Tabled V
  t = tabled w pools

  abbrev trail : Link → List ℕ
  trail = trail_of t

  counting : CountingLaws w.count terms.counts.limit w.idle w.wait w.board
  counting = lawful.counting terms.counts.limit terms.counts.has_most

  -- the pool of labels
  pub among-rises : (ls : List (Label V)) → AreRising w.cmp (pool_among w pools ls)
  among-rises ls = pool_rises w.below w.same w.cmp trail lawful.order lawful.total lawful.forgets.same_itself lawful.forgets.same_between ls

  pub among-is : (ls : List (Label V)) → ArePoolOf w.below w.same trail (map (shown trail) ls) (pool_among w pools ls)
  among-is ls = pool_is w.below w.same w.cmp trail lawful.order lawful.total lawful.forgets.same_itself lawful.forgets.same_between ls

  pub among-from : (ls : List (Label V)) (l : Label V) → Member (pool_among w pools ls) l → Member ls l
  among-from ls l m = pool_from w.below w.same w.cmp trail ls l m

  values : ((a : V) → is_same w.below a a ≡ true)
      × ((a b c : V) → w.below a b ≡ true → w.below b c ≡ true → is_same w.below a c ≡ true → (is_same w.below a b ≡ true) × (is_same w.below b c ≡ true))
  values = (
    λ a. and_from (w.below a a) (w.below a a) (lawful.order.reflexive a) (lawful.order.reflexive a),
    λ a b c h k e.
        let f = and_parts (w.below a c) (w.below c a) e in (
          and_from (w.below a b) (w.below b a) h (lawful.order.transitive b c a k f.1),
          and_from (w.below b c) (w.below c b) k (lawful.order.transitive c a b f.1 h),
        ),
  )

  -- the front of a duty
  module _ (rank : ℕ) (d : Duty) (known : slice_get w.net.duties rank ≡ Some d) where
    abbrev from : List (Label V)
    from = get_or pools (get_or w.leaves.positions rank 0) []

    abbrev boards : V → Option V
    boards v = w.board v d

    abbrev view : List (Label V)
    view = boarded_from (λ v. w.board v d) (number_of w rank) 0 from

    pub into : LeadInto (leads_of t) trail (number_of w rank) rank from
    into =
        let long = terms.passable.are_positions.long in
        let within = get-within w.net.duties rank d known in
        links_into w.leaves pools sound.linked (number_of w rank) rank (get_or w.leaves.positions rank 0) (number-told w terms rank d known) (at-within w.leaves.positions rank 0 (omega (arith, long, within)))

    pub view-shown : map (shown trail) view ≡ boarding w d rank (map (shown trail) from)
    view-shown = boarded_entries boards (number_of w rank) (leads_of t) trail rank from into

    from-ready : AreReady w t from
    from-ready = at-held w w.ready t pools sound.ready (get_or w.leaves.positions rank 0)

    pub view-held : HaveArrived w t view
    view-held =
        boarded-held w t boards rank terms.counts.limit (get-within w.net.duties rank d known) terms.counts.has_most (λ v z e. counting.ends v z d e)
        (λ m v z h e. lawful.board_arrived m v z d (terms.passable.sound d (member-got w.net.duties rank d known)) h e) from view from-ready view-shown
        (boarded_counted boards (number_of w rank) (leads_of t) trail rank w.count (λ v z e. counting.one_more v z d e) from into (counted w t w.ready from from-ready))

    pub front-held : HaveArrived w t (front_of w pools rank d)
    front-held l m = view-held l (pool_from w.below (is_same w.below) w.cmp trail view l m)

    pub front-rises : AreRising w.cmp (front_of w pools rank d)
    front-rises = pool_rises w.below (is_same w.below) w.cmp trail lawful.order lawful.total values.0 values.1 view

    pub front-is : AreFront w trail d rank from (front_of w pools rank d)
    front-is =
        let front = front_of w pools rank d in
        subst (λ (es : List (V × List ℕ)). IsLocal w.below ranks_at_most (λ v k. Member es (v, k)) (map (shown trail) front)) view-shown
        (front_from_pool w.cmp w.below lawful.order values.0 values.1 (λ v k. Member (map (shown trail) view) (v, k)) (map (shown trail) front)
        (pool_is w.below (is_same w.below) w.cmp trail lawful.order lawful.total values.0 values.1 view))

    pub front-itself : ArePoolOf w.below w.same trail (map (shown trail) (front_of w pools rank d)) (front_of w pools rank d)
    front-itself =
        front_itself w.cmp w.below lawful.order w.same lawful.forgets.same_itself lawful.forgets.same_between
        (λ v k. Member (boarding w d rank (map (shown trail) from)) (v, k)) (map (shown trail) (front_of w pools rank d)) front-is

  -- whatever the rank is
  pub fronts-held : (rank : ℕ) → HaveArrived w t (get_or (fronts_of w pools) rank [])
  fronts-held rank = ⊎_elim {C = HaveArrived w t (get_or (fronts_of w pools) rank [])}
      (λ s. subst (λ (ls : List (Label V)). HaveArrived w t ls) (sym (front-at w pools rank s.0 s.1)) (front-held rank s.0 s.1))
      (λ past. let long = fronts-long w pools in
      subst (λ (ls : List (Label V)). HaveArrived w t ls) (sym (past-none (fronts_of w pools) rank (omega (arith, past, long)))) (λ l m. absurd m))
      (at-or-past w.net.duties rank)

  -- the pool of an arrival
  module _ (x : Arrival) where
    abbrev front-or : ℕ → List (Label V)
    front-or rank = get_or (fronts_of w pools) rank []

    abbrev arriving : List (Label V)
    arriving = arriving_labels w (fronts_of w pools) x

    abbrev ranks : List ℕ
    ranks = ranks_where (arrives_at x) w.net.duties

    pub arriving-held : HaveArrived w t arriving
    arriving-held l m = let k = Member-flat_map_out (λ (rank : ℕ). get_or (fronts_of w pools) rank []) ranks l m in fronts-held k.0 l k.2

    pub arrival-held : HaveArrived w t (arrival_pool w pools x)
    arrival-held l m = arriving-held l (among-from arriving l m)

    pub arrival-rises : AreRising w.cmp (arrival_pool w pools x)
    arrival-rises = among-rises arriving

    pub arrival-gathered : AreGathered w trail (Arrives w.net trail (fronts_of w pools) x) (arrival_pool w pools x)
    arrival-gathered = record {
      listed = map (shown trail) arriving;
      pool = among-is arriving;
      among = λ v k m.
          let l = Member-map_out (shown trail) arriving (v, k) m in
          let r = Member-flat_map_out (λ (rank : ℕ). get_or (fronts_of w pools) rank []) ranks l.0 l.1 in
          let d = ranks-out (arrives_at x) w.net.duties r.0 r.1 in
          (r.0, d.0, d.1, sym (same-arrival x (arrival_of d.0) d.2), subst (λ (e : V × List ℕ). Member (map (shown trail) (front-or r.0)) e) l.2 (Member-map_in (shown trail) (front-or r.0) l.0 r.2));
      every = λ v k c.
          let passes = subst (λ (z : Arrival). arrives_at z c.1 ≡ true) c.3 (arrival-itself (arrival_of c.1)) in
          let here = ranks-in (arrives_at x) w.net.duties c.0 c.1 c.2 passes in
          let l = Member-map_out (shown trail) (front-or c.0) (v, k) c.4 in
          subst (λ (e : V × List ℕ). Member (map (shown trail) arriving) e) l.2
          (Member-map_in (shown trail) arriving l.0 (Member-flat_map_in (λ (rank : ℕ). get_or (fronts_of w pools) rank []) ranks c.0 l.0 here l.1));
    }

    -- and what a rest goes by
    abbrev rested : List (Label V)
    rested = map (waited_label w.rest) (arrival_pool w pools x)

    pub rested-rises : AreRising w.cmp (rested_pool w pools x)
    rested-rises = among-rises rested

    pub rested-is : IsRested w t (arrival_pool w pools x) (rested_pool w pools x)
    rested-is = record {
      those = subst (λ (es : List (V × List ℕ)). ArePoolOf w.below w.same trail es (rested_pool w pools x)) (shown-waited trail w.rest (arrival_pool w pools x)) (among-is rested);
      held = rest-held w t lawful.rest_counts lawful.rest_arrived (arrival_pool w pools x) (rested_pool w pools x) arrival-held (λ l m. among-from rested l m);
      are = λ l m.
          let s = Member-map_out (waited_label w.rest) (arrival_pool w pools x) l (among-from rested l m) in
          (s.0.value, ap (λ (z : Label V). z.value) (sym s.2));
    }

  -- the pool of a departure
  module _ (g : Departure) where
    abbrev home : Bool
    home = eq_by_cmp code_cmp g.airport w.base

    abbrev idles : List (Label V)
    idles = idle_labels home (w.idle g)

    abbrev opens : Arrival → Bool
    opens x = may_wait w.net.settings x g

    abbrev open_arrivals : List Arrival
    open_arrivals = filter (λ x. may_wait w.net.settings x g) w.net.arrivals

    abbrev waited : List (Label V)
    waited = flat_map (waited_labels w pools g) open_arrivals

    abbrev waiting : List (Label V)
    waiting = waiting_labels w pools g

    abbrev held : List (List (Label V))
    held = map (arrival_pool w pools) w.net.arrivals

    waited-ready : (x : Arrival) → opens x ≡ true → AreReady w t (waited_labels w pools g x)
    waited-ready x o =
        waited-held w t w.arrived w.ready (λ v. w.wait v x g) (λ v. counting.none_more v x g) (λ n v h. lawful.wait_ready n v x g (follows w.net.settings x g terms.passable.rests o) h)
        (arrival_pool w pools x) (arrival-held x)

    pub waiting-ready : AreReady w t waiting
    waiting-ready l m = ⊎_elim {C = IsHeld w w.ready t l}
        (λ k. idle-held w t home (w.idle g) (counting.none_yet g) (lawful.idle_ready g) l k)
        (λ k.
        let r = Member-flat_map_out (waited_labels w pools g) open_arrivals l k in
        let o = Member-filter_out (λ x. may_wait w.net.settings x g) w.net.arrivals r.0 r.1 in
        waited-ready r.0 o.1 l r.2)
        (Member-append idles waited l m)

    pub departure-ready : AreReady w t (departure_pool w pools g)
    departure-ready l m = waiting-ready l (among-from waiting l m)

    pub departure-rises : AreRising w.cmp (departure_pool w pools g)
    departure-rises = among-rises waiting

    abbrev Candidate : V → List ℕ → Type 0
    Candidate = Waits w trail held g

    among-waits : (v : V) (k : List ℕ) → Member (map (shown trail) waiting) (v, k) → Candidate v k
    among-waits v k m =
        let l = Member-map_out (shown trail) waiting (v, k) m in
        ⊎_elim {C = Candidate v k}
        (λ j. inl (idle-out w trail home (w.idle g) v k (subst (λ (e : V × List ℕ). Member (map (shown trail) idles) e) l.2 (Member-map_in (shown trail) idles l.0 j))))
        (λ j.
        let r = Member-flat_map_out (waited_labels w pools g) open_arrivals l.0 j in
        let o = Member-filter_out (λ x. may_wait w.net.settings x g) w.net.arrivals r.0 r.1 in
        let s = Member-map_out (waited_label (λ v. w.wait v r.0 g)) (arrival_pool w pools r.0) l.0 r.2 in
        let e : shown trail (waited_label (λ v. w.wait v r.0 g) s.0) ≡ (v, k) = ap (shown trail) s.2 ∙ l.2 in
        let place = member-place w.net.arrivals r.0 o.0 in
        let here = made-at (arrival_pool w pools) w.net.arrivals place.0 r.0 place.1 in
        inr (
          place.0,
          (
            r.0,
            s.0.value,
            place.1,
            o.1,
            subst (λ (ls : List (Label V)). Member (map (shown trail) ls) (s.0.value, k)) (sym here)
                (subst (λ (z : List ℕ). Member (map (shown trail) (arrival_pool w pools r.0)) (s.0.value, z)) (ap (λ (p : V × List ℕ). p.1) e) (Member-map_in (shown trail) (arrival_pool w pools r.0) s.0 s.1)),
            sym (ap (λ (p : V × List ℕ). p.0) e),
          ),
        ))
        (Member-append idles waited l.0 l.1)

    every-waits : (v : V) (k : List ℕ) → Candidate v k → Member (map (shown trail) waiting) (v, k)
    every-waits v k = ⊎_elim {C = Member (map (shown trail) waiting) (v, k)}
        (λ c.
        let l = Member-map_out (shown trail) idles (v, k) (idle-in w trail home (w.idle g) v k c.0 c.1 c.2) in
        subst (λ (e : V × List ℕ). Member (map (shown trail) waiting) e) l.2 (Member-map_in (shown trail) waiting l.0 (Member-append_left idles waited l.0 l.1)))
        (λ c.
        let x = c.1.0 in
        let waits = λ (v : V). w.wait v x g in
        let here = made-at (arrival_pool w pools) w.net.arrivals c.0 x c.1.2 in
        let s = Member-map_out (shown trail) (arrival_pool w pools x) (c.1.1, k) (subst (λ (ls : List (Label V)). Member (map (shown trail) ls) (c.1.1, k)) here c.1.4) in
        let label = waited_label waits s.0 in
        let there = Member-flat_map_in (waited_labels w pools g) open_arrivals x label (Member-filter_in (λ x. may_wait w.net.settings x g) w.net.arrivals x (member-got w.net.arrivals c.0 x c.1.2) c.1.3)
        (Member-map_in (waited_label waits) (arrival_pool w pools x) s.0 s.1) in
        let e : shown trail label ≡ (v, k) = ap (λ (p : V × List ℕ). (w.wait p.0 x g, p.1)) s.2 ∙ ap (λ (z : V). (z, k)) (sym c.1.5) in
        subst (λ (e : V × List ℕ). Member (map (shown trail) waiting) e) e (Member-map_in (shown trail) waiting label (Member-append_right idles waited label there)))

    pub departure-gathered : AreGathered w trail (Waits w trail (map (arrival_pool w pools) w.net.arrivals) g) (departure_pool w pools g)
    departure-gathered = record { listed = map (shown trail) waiting; pool = among-is waiting; among = among-waits; every = every-waits }
