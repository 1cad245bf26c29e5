-- More departures leave what was made of those before them as it was.
use Rattle.std.proofs.Common.{◌≡◌, ◌∙◌, ◌<◌, ◌++◌, ℕ, true, List, [], ◌∷◌, Some, length, map, get_or, inl, inr, refl, sym, ap}
use Rattle.std.specs.Prelude.{slice_get}
use Rattle.std.specs.List.{filter, flat_map}
use Rattle.std.specs.Ordering.{eq_by_cmp}
use Rattle.std.proofs.lemmas.List.{get_or_append_left}
use Rattle.crew_flights.specs.Codes.{code_cmp}
use Rattle.crew_forgetful.specs.Machinery.Sums.{is_same}
use Rattle.crew_label.specs.Boarding.{boarded_from, waited_label}
use Rattle.crew_label.specs.Tables.{trail_in}
use Rattle.crew_label.specs.Walks.{walk_of}
use Rattle.crew_label.specs.declared.label.Label.{Label}
use Rattle.crew_net.specs.Events.{arrives_at}
use Rattle.crew_net.specs.Ranks.{ranks_where}
use Rattle.crew_net.proofs.ArrivalPlaces.{ranks-out}
use Rattle.crew_net.proofs.Numbers.{same-arrival}
use Rattle.crew_pairing.specs.Events.{arrival_of, may_wait}
use Rattle.crew_pairing.specs.declared.duty.Duty.{Duty}
use Rattle.crew_pairing.specs.declared.events.Arrival.{Arrival}
use Rattle.crew_pairing.specs.declared.events.Departure.{Departure}
use Rattle.crew_resource.specs.Members.{Member}
use Rattle.crew_resource.proofs.Members.{Member-filter_out}
use Rattle.crew_labelling.specs.Candidates.{idle_labels}
use Rattle.crew_labelling.specs.Held.{IsHeld}
use Rattle.crew_labelling.specs.Labellings.{arrival_pool, arriving_labels, departure_pool, front_of, fronts_of, pool_among, waited_labels, waiting_labels}
use Rattle.crew_labelling.specs.Labellings.{pool_of}
use Rattle.crew_labelling.specs.Terms.{AreLawful, AreTerms, Terms, number_of}
use Rattle.crew_labelling.proofs.PoolOf.{pool_alike}
use Rattle.crew_labelling.proofs.Sound.{AreSound, all-lead, tabled}
use Rattle.crew_labelling.proofs.Stages.{arriving-held, front-at, view-held, waiting-ready}
use Rattle.crew_labelling.proofs.Stays.{walk-stays}

flat-alike : {X Y : Type 0} (f g : X → List Y) (xs : List X) → ((x : X) → Member xs x → f x ≡ g x) → flat_map f xs ≡ flat_map g xs
flat-alike f g [] h = refl
flat-alike f g (x ∷ xs) h = ap (λ ys. ys ++ flat_map f xs) (h x (inl refl)) ∙ ap (λ ys. g x ++ ys) (flat-alike f g xs (λ y m. h y (inr m)))

module _ {V : Type 0} (w : Terms V) (terms : AreTerms w) (lawful : AreLawful w) (pools rest : List (List (Label V))) (sound : AreSound w pools) where
  abbrev more : List (List (Label V))
  more = pools ++ rest

  walk-same : (Bound : ℕ → V → Type 0) (l : Label V) → IsHeld w Bound (tabled w pools) l → walk_of (trail_in w.leaves more) l.before ≡ walk_of (trail_in w.leaves pools) l.before
  walk-same Bound l h = walk-stays (tabled w pools) (tabled w more) (all-lead w pools rest) l.before h.leading

  -- the front of a duty whose departure was there
  pub front-stays : (rank : ℕ) (d : Duty) → slice_get w.net.duties rank ≡ Some d → get_or w.leaves.positions rank 0 < length pools → front_of w more rank d ≡ front_of w pools rank d
  front-stays rank d known h =
      let position = get_or w.leaves.positions rank 0 in
      let view = boarded_from (λ v. w.board v d) (number_of w rank) 0 (get_or pools position []) in
      ap (λ (ls : List (Label V)). pool_of w.below (is_same w.below) w.cmp (trail_in w.leaves more) (boarded_from (λ v. w.board v d) (number_of w rank) 0 ls)) (get_or_append_left pools rest [] position h)
      ∙ pool_alike w.below (is_same w.below) w.cmp (trail_in w.leaves pools) (trail_in w.leaves more) view (λ l m. walk-same w.arrived l (view-held w terms lawful pools sound rank d known l m))

  -- the departures of all duties that arrive there were
  abbrev pub IsPast : Arrival → Type 0
  IsPast x = (rank : ℕ) (d : Duty) → slice_get w.net.duties rank ≡ Some d → arrival_of d ≡ x → get_or w.leaves.positions rank 0 < length pools

  fronts-stay : (x : Arrival) → IsPast x → (rank : ℕ) → Member (ranks_where (arrives_at x) w.net.duties) rank → get_or (fronts_of w more) rank [] ≡ get_or (fronts_of w pools) rank []
  fronts-stay x past rank m =
      let d = ranks-out (arrives_at x) w.net.duties rank m in
      let before = past rank d.0 d.1 (sym (same-arrival x (arrival_of d.0) d.2)) in
      front-at w more rank d.0 d.1 ∙ (front-stays rank d.0 d.1 before ∙ sym (front-at w pools rank d.0 d.1))

  -- the pool of such an arrival
  pub arrival-stays : (x : Arrival) → IsPast x → arrival_pool w more x ≡ arrival_pool w pools x
  arrival-stays x past =
      let same = flat-alike (λ (rank : ℕ). get_or (fronts_of w more) rank []) (λ (rank : ℕ). get_or (fronts_of w pools) rank []) (ranks_where (arrives_at x) w.net.duties) (fronts-stay x past) in
      ap (λ (ls : List (Label V)). pool_among w more ls) same
      ∙ pool_alike w.below w.same w.cmp (trail_in w.leaves pools) (trail_in w.leaves more) (arriving_labels w (fronts_of w pools) x) (λ l m. walk-same w.arrived l (arriving-held w terms lawful pools sound x l m))

  -- the pool of a departure that may wait on such arrivals alone
  pub departure-stays : (g : Departure) → ((x : Arrival) → may_wait w.net.settings x g ≡ true → IsPast x) → departure_pool w more g ≡ departure_pool w pools g
  departure-stays g past =
      let opens = λ (x : Arrival). may_wait w.net.settings x g in
      let same = flat-alike (waited_labels w more g) (waited_labels w pools g) (filter opens w.net.arrivals)
      (λ x m. ap (map (waited_label (λ v. w.wait v x g))) (arrival-stays x (past x (Member-filter_out opens w.net.arrivals x m).1))) in
      ap (λ (ls : List (Label V)). pool_among w more (idle_labels (eq_by_cmp code_cmp g.airport w.base) (w.idle g) ++ ls)) same
      ∙ pool_alike w.below w.same w.cmp (trail_in w.leaves pools) (trail_in w.leaves more) (waiting_labels w pools g) (λ l m. walk-same w.ready l (waiting-ready w terms lawful pools sound g l m))
