-- The labelling is right: each list of it rises, is the pool or the front that it is to be, and has what labels are to have.
use Rattle.std.proofs.Common.{◌≡◌, ◌∙◌, ◌<◌, ◌+◌, ℕ, zero, suc, Bool, true, false, List, [], ◌∷◌, Option, Some, None, length, map, get_or, inl, inr, refl, sym, ap, subst, ⊎_elim, arith}
use Rattle.std.specs.Prelude.{slice_get}
use Rattle.std.specs.List.{filter, flat_map}
use Rattle.std.specs.Ordering.{eq_by_cmp}
use Rattle.std.proofs.lemmas.List.{length-map}
use Rattle.crew_flights.specs.Codes.{code_cmp}
use Rattle.crew_forgetful.specs.Machinery.Sums.{is_same}
use Rattle.crew_label.specs.Boarding.{LeadInto, boarded_from, linked, waited_label}
use Rattle.crew_label.specs.Pools.{ArePoolOf, AreRising}
use Rattle.crew_label.specs.Tables.{AreLinked, Tabled}
use Rattle.crew_label.specs.Walks.{shown}
use Rattle.crew_label.specs.declared.label.Label.{Label}
use Rattle.crew_label.specs.declared.label.Link.{Link}
use Rattle.crew_net.specs.Events.{arrives_at}
use Rattle.crew_net.specs.Positions.{in_order}
use Rattle.crew_net.specs.Ranks.{ranks_where}
use Rattle.crew_net.proofs.ArrivalPlaces.{ranks-out}
use Rattle.crew_net.proofs.Numbers.{get-within, same-arrival}
use Rattle.crew_net.proofs.Orders.{in-order-long}
use Rattle.crew_net.proofs.Slices.{past-none, some-same}
use Rattle.crew_pairing.specs.Events.{arrival_of, may_wait}
use Rattle.crew_pairing.specs.declared.duty.Duty.{Duty}
use Rattle.crew_pairing.specs.declared.events.Arrival.{Arrival}
use Rattle.crew_pairing.specs.declared.events.Departure.{Departure}
use Rattle.crew_resource.specs.Members.{Member}
use Rattle.crew_resource.proofs.Members.{Member-append, Member-filter_out, Member-flat_map_out, Member-map_out}
use Rattle.crew_labelling.specs.Candidates.{AreFront, AreGathered, Arrives, IsRested, Waits, idle_labels}
use Rattle.crew_labelling.specs.Held.{AreReady, HaveArrived, leads_of, trail_of}
use Rattle.crew_labelling.specs.Labellings.{Labelling, arrival_pool, arriving_labels, departure_pool, front_of, fronts_of, labelling_of, pools_upto, rested_pool, table_of, waited_labels, waiting_labels}
use Rattle.crew_labelling.specs.Terms.{AreLawful, AreTerms, Terms, number_of}
use Rattle.crew_labelling.proofs.PoolOf.{pool_from}
use Rattle.crew_labelling.proofs.Sound.{AreSound}
use Rattle.crew_labelling.proofs.Stages.{among-from, arrival-gathered, arrival-held, arrival-rises, at-or-past, departure-gathered, front-at, front-held, front-is, front-itself, front-rises, into, made-at, rested-is, rested-rises}
use Rattle.crew_labelling.proofs.Stages as stages
use Rattle.crew_labelling.proofs.Stays.{at-held}
use Rattle.crew_labelling.proofs.Upto.{leaves-before, upto-at, upto-long, upto-sound}

-- what all lists have, and the empty one, what stands at any place has
all-listed : {A : Type 0} (P : List A → Type 0) → P [] → (lists : List (List A)) → ((ls : List A) → Member lists ls → P ls) → (i : ℕ) → P (get_or lists i [])
all-listed P none [] all i = none
all-listed P none (ls ∷ lists) all zero = all ls (inl refl)
all-listed P none (ls ∷ lists) all (suc i) = all-listed P none lists (λ ms m. all ms (inr m)) i

-- the link of a label that boards
link-from : {V : Type 0} (o : Option V) (link : Link) (l : Label V) → Member (linked o link) l → l.before ≡ Some link
link-from None link l m = absurd m
link-from (Some v) link l (inl e) = ap (λ (z : Label _). z.before) (sym e)
link-from (Some v) link l (inr m) = absurd m

pub boarded-link : {V : Type 0} (board : V → Option V) (duty n : ℕ) (ls : List (Label V)) (l : Label V) → Member (boarded_from board duty n ls) l → (place : ℕ) × (l.before ≡ Some (record { duty = duty; place = place }))
boarded-link board duty n [] l m = absurd m
boarded-link {V} board duty n (x ∷ ls) l m = ⊎_elim {C = (place : ℕ) × (l.before ≡ Some (record { duty = duty; place = place }))}
    (λ k. (n, link-from (board x.value) (record { duty = duty; place = n }) l k))
    (λ k. boarded-link board duty (n + 1) ls l k)
    (Member-append (linked (board x.value) (record { duty = duty; place = n })) (boarded_from board duty (n + 1) ls) l m)

idle-alone : {V : Type 0} (here : Bool) (v : V) (l : Label V) → Member (idle_labels here v) l → l.before ≡ None
idle-alone true v l (inl e) = ap (λ (z : Label _). z.before) (sym e)
idle-alone true v l (inr m) = absurd m
idle-alone false v l m = absurd m

no-link : (link : Link) (o : Option Link) → o ≡ None → o ≡ Some link → ⊥
no-link link o p q = let e : None ≡ Some link = sym p ∙ q in let k : ⊥ = (cc) in k

module _ {V : Type 0} (w : Terms V) (terms : AreTerms w) where
  abbrev y : Labelling V
  y = labelling_of w

  abbrev pools : List (List (Label V))
  pools = pools_upto w (length w.net.by_report)

  abbrev t : Tabled V
  t = table_of w y

  abbrev trail : Link → List ℕ
  trail = trail_of t

  -- 1. how many there are
  pub departures-long : length (labelling_of w).departures ≡ length w.net.by_report
  unfolding labelling_of
  departures-long = upto-long w terms (length w.net.by_report)

  pub arrivals-long : length (labelling_of w).arrivals ≡ length w.net.arrivals
  unfolding labelling_of
  arrivals-long = length-map w.net.arrivals (arrival_pool w pools)

  pub rested-long : length (labelling_of w).rested ≡ length w.net.arrivals
  unfolding labelling_of
  rested-long = length-map w.net.arrivals (rested_pool w pools)

  pub fronts-long : length (labelling_of w).fronts ≡ length w.net.duties
  unfolding labelling_of
  fronts-long = stages.fronts-long w pools

  position-within : (i : ℕ) (g : Departure) → slice_get (in_order w.net) i ≡ Some g → i < length w.net.by_report
  unfolding labelling_of
  position-within i g at =
      let long = in-order-long w.net terms.passable.departs terms.passable.ordered in
      let within = get-within (in_order w.net) i g at in
      omega (arith, long, within)

  -- each arrival's pool, and each duty's front, is what the pools of departures make of it
  pub arrival-is : (place : ℕ) (x : Arrival) → slice_get w.net.arrivals place ≡ Some x → get_or (labelling_of w).arrivals place [] ≡ arrival_pool w (labelling_of w).departures x
  unfolding labelling_of
  arrival-is place x at = made-at (arrival_pool w pools) w.net.arrivals place x at

  pub rested-of : (place : ℕ) (x : Arrival) → slice_get w.net.arrivals place ≡ Some x → get_or (labelling_of w).rested place [] ≡ rested_pool w (labelling_of w).departures x
  unfolding labelling_of
  rested-of place x at = made-at (rested_pool w pools) w.net.arrivals place x at

  pub front-of : (rank : ℕ) (d : Duty) → slice_get w.net.duties rank ≡ Some d → get_or (labelling_of w).fronts rank [] ≡ front_of w (labelling_of w).departures rank d
  unfolding labelling_of
  front-of rank d known = front-at w pools rank d known

  module _ (lawful : AreLawful w) where
    pub sound : AreSound w (labelling_of w).departures
    unfolding labelling_of
    sound = upto-sound w terms lawful (length w.net.by_report)

    -- and so is each departure's pool
    pub departure-is : (i : ℕ) (g : Departure) → slice_get (in_order w.net) i ≡ Some g → get_or (labelling_of w).departures i [] ≡ departure_pool w (labelling_of w).departures g
    unfolding labelling_of
    departure-is i g at = upto-at w terms lawful (length w.net.by_report) i g (position-within i g at) at

    -- 2 and 3. departures
    pub departures-rise : (i : ℕ) → AreRising w.cmp (get_or (labelling_of w).departures i [])
    unfolding labelling_of
    departures-rise i = all-listed (AreRising w.cmp) tt pools sound.rise i

    pub departures-ready : (i : ℕ) → AreReady w (table_of w (labelling_of w)) (get_or (labelling_of w).departures i [])
    unfolding labelling_of
    departures-ready i = at-held w w.ready t pools sound.ready i

    pub departures-gathered : (i : ℕ) (g : Departure) → slice_get (in_order w.net) i ≡ Some g
        → AreGathered w (trail_of (table_of w (labelling_of w))) (Waits w (trail_of (table_of w (labelling_of w))) (labelling_of w).arrivals g) (get_or (labelling_of w).departures i [])
    unfolding labelling_of
    departures-gathered i g at = subst (λ (ls : List (Label V)). AreGathered w trail (Waits w trail y.arrivals g) ls) (sym (departure-is i g at)) (departure-gathered w terms lawful pools sound g)

    -- links of a duty lead to the labels of its departure's pool
    pub departures-into : (rank : ℕ) (d : Duty) → slice_get w.net.duties rank ≡ Some d
        → LeadInto (leads_of (table_of w (labelling_of w))) (trail_of (table_of w (labelling_of w))) (number_of w rank) rank (get_or (labelling_of w).departures (get_or w.leaves.positions rank 0) [])
    unfolding labelling_of
    departures-into rank d known = into w terms lawful pools sound rank d known

    -- arrivals
    at-arrival : (P : List (Label V) → Type 0) → P [] → (make : Arrival → List (Label V)) → ((x : Arrival) → P (make x)) → (place : ℕ) → P (get_or (map make w.net.arrivals) place [])
    unfolding labelling_of
    at-arrival P none make each place = ⊎_elim {C = P (get_or (map make w.net.arrivals) place [])}
        (λ s. subst P (sym (made-at make w.net.arrivals place s.0 s.1)) (each s.0))
        (λ past. let long = length-map w.net.arrivals make in subst P (sym (past-none (map make w.net.arrivals) place (omega (arith, past, long)))) none)
        (at-or-past w.net.arrivals place)

    pub arrivals-rise : (place : ℕ) → AreRising w.cmp (get_or (labelling_of w).arrivals place [])
    unfolding labelling_of
    arrivals-rise = at-arrival (AreRising w.cmp) tt (arrival_pool w pools) (arrival-rises w terms lawful pools sound)

    pub arrivals-held : (place : ℕ) → HaveArrived w (table_of w (labelling_of w)) (get_or (labelling_of w).arrivals place [])
    unfolding labelling_of
    arrivals-held = at-arrival (HaveArrived w t) (λ l m. absurd m) (arrival_pool w pools) (arrival-held w terms lawful pools sound)

    pub arrivals-gathered : (place : ℕ) (x : Arrival) → slice_get w.net.arrivals place ≡ Some x
        → AreGathered w (trail_of (table_of w (labelling_of w))) (Arrives w.net (trail_of (table_of w (labelling_of w))) (labelling_of w).fronts x) (get_or (labelling_of w).arrivals place [])
    unfolding labelling_of
    arrivals-gathered place x at = subst (λ (ls : List (Label V)). AreGathered w trail (Arrives w.net trail y.fronts x) ls) (sym (arrival-is place x at)) (arrival-gathered w terms lawful pools sound x)

    -- what rests after them go by
    pub rested-rise : (place : ℕ) → AreRising w.cmp (get_or (labelling_of w).rested place [])
    unfolding labelling_of
    rested-rise = at-arrival (AreRising w.cmp) tt (rested_pool w pools) (rested-rises w terms lawful pools sound)

    pub rested-are : (place : ℕ) → IsRested w (table_of w (labelling_of w)) (get_or (labelling_of w).arrivals place []) (get_or (labelling_of w).rested place [])
    unfolding labelling_of
    rested-are place = ⊎_elim {C = IsRested w t (get_or y.arrivals place []) (get_or y.rested place [])}
        (λ s.
        subst (λ (ls : List (Label V)). IsRested w t ls (get_or y.rested place [])) (sym (arrival-is place s.0 s.1))
        (subst (λ (ls : List (Label V)). IsRested w t (arrival_pool w pools s.0) ls) (sym (rested-of place s.0 s.1)) (rested-is w terms lawful pools sound s.0)))
        (λ past.
        let one = arrivals-long in
        let two = rested-long in
        subst (λ (ls : List (Label V)). IsRested w t ls (get_or y.rested place [])) (sym (past-none y.arrivals place (omega (arith, past, one))))
        (subst (λ (ls : List (Label V)). IsRested w t [] ls) (sym (past-none y.rested place (omega (arith, past, two))))
        (record {
          those = record { among = λ v k m. absurd m; covers = λ v k m. absurd m; alone = λ v k x z m. absurd m };
          held = λ l m. absurd m;
          are = λ l m. absurd m;
        })))
        (at-or-past w.net.arrivals place)

    -- fronts
    at-front : (P : List (Label V) → Type 0) → P [] → ((rank : ℕ) (d : Duty) → slice_get w.net.duties rank ≡ Some d → P (front_of w pools rank d)) → (rank : ℕ) → P (get_or (fronts_of w pools) rank [])
    unfolding labelling_of
    at-front P none each rank = ⊎_elim {C = P (get_or (fronts_of w pools) rank [])}
        (λ s. subst P (sym (front-at w pools rank s.0 s.1)) (each rank s.0 s.1))
        (λ past. let long = fronts-long in subst P (sym (past-none (fronts_of w pools) rank (omega (arith, past, long)))) none)
        (at-or-past w.net.duties rank)

    pub fronts-rise : (rank : ℕ) → AreRising w.cmp (get_or (labelling_of w).fronts rank [])
    unfolding labelling_of
    fronts-rise = at-front (AreRising w.cmp) tt (front-rises w terms lawful pools sound)

    pub fronts-held : (rank : ℕ) → HaveArrived w (table_of w (labelling_of w)) (get_or (labelling_of w).fronts rank [])
    unfolding labelling_of
    fronts-held = at-front (HaveArrived w t) (λ l m. absurd m) (front-held w terms lawful pools sound)

    pub fronts-are : (rank : ℕ) (d : Duty) → slice_get w.net.duties rank ≡ Some d
        → AreFront w (trail_of (table_of w (labelling_of w))) d rank (get_or (labelling_of w).departures (get_or w.leaves.positions rank 0) []) (get_or (labelling_of w).fronts rank [])
    unfolding labelling_of
    fronts-are rank d known =
        subst (λ (ls : List (Label V)). AreFront w trail d rank (get_or pools (get_or w.leaves.positions rank 0) []) ls) (sym (front-of rank d known)) (front-is w terms lawful pools sound rank d known)

    pub fronts-themselves : (rank : ℕ)
        → ArePoolOf w.below w.same (trail_of (table_of w (labelling_of w))) (map (shown (trail_of (table_of w (labelling_of w)))) (get_or (labelling_of w).fronts rank [])) (get_or (labelling_of w).fronts rank [])
    unfolding labelling_of
    fronts-themselves = at-front (λ (ls : List (Label V)). ArePoolOf w.below w.same trail (map (shown trail) ls) ls) (record { among = λ v k m. m; covers = λ v k m. absurd m; alone = λ v k x z m. absurd m })
        (front-itself w terms lawful pools sound)

    -- 4. links lead back
    pub departures-linked : AreLinked w.leaves [] (labelling_of w).departures
    unfolding labelling_of
    departures-linked = sound.linked

    -- a label of a front links to its duty, by number
    pub front-links : (rank : ℕ) (l : Label V) → Member (get_or (labelling_of w).fronts rank []) l
        → (d : Duty) × (place : ℕ) × (slice_get w.net.duties rank ≡ Some d) × (l.before ≡ Some (record { duty = number_of w rank; place = place }))
    unfolding labelling_of
    front-links rank l = at-front' rank
      where
        at-front' : (rank : ℕ) → Member (get_or (fronts_of w pools) rank []) l
            → (d : Duty) × (place : ℕ) × (slice_get w.net.duties rank ≡ Some d) × (l.before ≡ Some (record { duty = number_of w rank; place = place }))
        at-front' rank m = ⊎_elim {C = (d : Duty) × (place : ℕ) × (slice_get w.net.duties rank ≡ Some d) × (l.before ≡ Some (record { duty = number_of w rank; place = place }))}
            (λ s.
            let view = boarded_from (λ v. w.board v s.0) (number_of w rank) 0 (get_or pools (get_or w.leaves.positions rank 0) []) in
            let k = boarded-link (λ v. w.board v s.0) (number_of w rank) 0 (get_or pools (get_or w.leaves.positions rank 0) []) l
            (pool_from w.below (is_same w.below) w.cmp trail view l (subst (λ (ls : List (Label V)). Member ls l) (front-at w pools rank s.0 s.1) m)) in
            (s.0, k.0, s.1, k.1))
            (λ past. let long = fronts-long in absurd (subst (λ (ls : List (Label V)). Member ls l) (past-none (fronts_of w pools) rank (omega (arith, past, long))) m))
            (at-or-past w.net.duties rank)

    -- one of an arrival to a duty that arrives there
    abbrev pub LinksTo : Arrival → Label V → Type 0
    LinksTo x l = (rank : ℕ) × (d : Duty) × (place : ℕ) × (slice_get w.net.duties rank ≡ Some d) × (arrival_of d ≡ x) × (l.before ≡ Some (record { duty = number_of w rank; place = place }))

    arrival-links : (x : Arrival) (l : Label V) → Member (arrival_pool w pools x) l → LinksTo x l
    unfolding labelling_of
    arrival-links x l m =
        let ranks = ranks_where (arrives_at x) w.net.duties in
        let r = Member-flat_map_out (λ (rank : ℕ). get_or (fronts_of w pools) rank []) ranks l (among-from w terms lawful pools sound (arriving_labels w (fronts_of w pools) x) l m) in
        let d = ranks-out (arrives_at x) w.net.duties r.0 r.1 in
        let k = front-links r.0 l r.2 in
        (r.0, d.0, k.1, d.1, sym (same-arrival x (arrival_of d.0) d.2), k.3)

    pub arrivals-link : (place : ℕ) (x : Arrival) → slice_get w.net.arrivals place ≡ Some x → (l : Label V) → Member (get_or (labelling_of w).arrivals place []) l → LinksTo x l
    unfolding labelling_of
    arrivals-link place x at l m = arrival-links x l (subst (λ (ls : List (Label V)). Member ls l) (arrival-is place x at) m)

    -- and one of a departure to a duty on whose arrival the departure may wait, and which leaves before it
    pub departures-link : (i : ℕ) (g : Departure) → slice_get (in_order w.net) i ≡ Some g → (l : Label V) → Member (get_or (labelling_of w).departures i []) l → (link : Link) → l.before ≡ Some link
        → (rank : ℕ) × (d : Duty) × (slice_get w.net.duties rank ≡ Some d) × (link.duty ≡ number_of w rank) × (may_wait w.net.settings (arrival_of d) g ≡ true) × (get_or w.leaves.positions rank 0 < i)
    unfolding labelling_of
    departures-link i g at l m link is =
        let opens = λ (x : Arrival). may_wait w.net.settings x g in
        let idles = idle_labels (eq_by_cmp code_cmp g.airport w.base) (w.idle g) in
        let among = among-from w terms lawful pools sound (waiting_labels w pools g) l (subst (λ (ls : List (Label V)). Member ls l) (departure-is i g at) m) in
        ⊎_elim {C = (rank : ℕ) × (d : Duty) × (slice_get w.net.duties rank ≡ Some d) × (link.duty ≡ number_of w rank) × (may_wait w.net.settings (arrival_of d) g ≡ true) × (get_or w.leaves.positions rank 0 < i)}
        (λ k. absurd (no-link link l.before (idle-alone (eq_by_cmp code_cmp g.airport w.base) (w.idle g) l k) is))
        (λ k.
        let r = Member-flat_map_out (waited_labels w pools g) (filter opens w.net.arrivals) l k in
        let o = Member-filter_out opens w.net.arrivals r.0 r.1 in
        let s = Member-map_out (waited_label (λ v. w.wait v r.0 g)) (arrival_pool w pools r.0) l r.2 in
        let to = arrival-links r.0 s.0 s.1 in
        let own : Link = record { duty = number_of w to.0; place = to.2 } in
        let before : l.before ≡ Some own = ap (λ (z : Label V). z.before) (sym s.2) ∙ to.5 in (
          to.0,
          to.1,
          to.3,
          ap (λ (z : Link). z.duty) (some-same l.before link own is before),
          subst (λ (x : Arrival). may_wait w.net.settings x g ≡ true) (sym to.4) o.1,
          leaves-before w terms i g at r.0 o.1 to.0 to.1 to.3 to.4,
        ))
        (Member-append idles (flat_map (waited_labels w pools g) (filter opens w.net.arrivals)) l among)
