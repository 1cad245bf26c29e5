-- The labelling of a network: which labels each departure, each arrival and each duty's front has.
--
-- It is made departure by departure in order of report. The pools of departures so far give the
-- front of each duty that leaves by them, the fronts give the pools of arrivals, and these give the
-- pool of the next departure.
use Rattle.std.specs.Prelude.{ℕ, zero, suc, Bool, ◌&&◌, List, [], ◌∷◌, ◌++◌, get_or, length, map, not, cond}
use Rattle.std.specs.List.{filter, flat_map, list_any}
use Rattle.std.specs.Ordering.{eq_by_cmp, is_lt}
use Rattle.crew_flights.specs.Codes.{code_cmp}
use Rattle.crew_label.specs.Boarding.{boarded_from, waited_label}
use Rattle.crew_label.specs.Tables.{Tabled, trail_in}
use Rattle.crew_label.specs.declared.label.Label.{Label}
use Rattle.crew_net.specs.Events.{arrives_at}
use Rattle.crew_net.specs.Positions.{departure_at}
use Rattle.crew_net.specs.Ranks.{ranks_where}
use Rattle.crew_pairing.specs.Events.{may_wait}
use Rattle.crew_pairing.specs.declared.duty.Duty.{Duty}
use Rattle.crew_pairing.specs.declared.events.Arrival.{Arrival}
use Rattle.crew_pairing.specs.declared.events.Departure.{Departure}
use Rattle.crew_labelling.specs.Candidates.{idle_labels}
use Rattle.crew_labelling.specs.Terms.{Terms, number_of}
use Rattle.std.specs.declared.cmp.Ordering.{Ordering}
use Rattle.crew_label.specs.Pools.{stands_label}
use Rattle.crew_label.specs.declared.label.Link.{Link}
use Rattle.crew_resource.specs.Entries.{placed}

-- a pool, and one more label: it stays out where one of the pool may stand for it; else those for
-- which it may stand leave, and it comes in by its place in the listing
abbrev pub offered : {V : Type 0} → (V → V → Bool) → (V → V → Bool) → (V → V → Ordering)
    → (Link → List ℕ) → Label V → List (Label V) → List (Label V)
offered below same cmp trail l pool =
    cond (list_any (λ m. stands_label below same trail m l) pool) pool
    (placed (λ m. is_lt (cmp l.value m.value)) l
    (filter (λ m. not (stands_label below same trail l m)) pool))

-- the pool of all labels of a list
abbrev pub pool_of : {V : Type 0} → (V → V → Bool) → (V → V → Bool) → (V → V → Ordering)
    → (Link → List ℕ) → List (Label V) → List (Label V)
pool_of below same cmp trail [] = []
pool_of below same cmp trail (l ∷ ls) =
    offered below same cmp trail l (pool_of below same cmp trail ls)

-- the pool of labels whose links lead into the pools of departures
abbrev pub pool_among : {V : Type 0} → Terms V → List (List (Label V)) → List (Label V)
    → List (Label V)
pool_among w pools labels = pool_of w.below w.same w.cmp (trail_in w.leaves pools) labels

-- two values are one where each is at most the other
abbrev pub are_one : {V : Type 0} → (V → V → Bool) → V → V → Bool
are_one below a b = below a b && below b a

-- the front of a duty: what dominance by values leaves of the labels that board it from the pool of
-- its departure
abbrev pub front_of : {V : Type 0} → Terms V → List (List (Label V)) → ℕ → Duty → List (Label V)
front_of w pools rank d = pool_of w.below (are_one w.below) w.cmp (trail_in w.leaves pools)
    (boarded_from (λ v. w.board v d) (number_of w rank) 0
    (get_or pools (get_or w.leaves.positions rank 0) []))

-- the fronts of duties, whose ranks begin with one
abbrev pub fronts_from : {V : Type 0} → Terms V → List (List (Label V)) → ℕ → List Duty
    → List (List (Label V))
fronts_from w pools rank [] = []
fronts_from w pools rank (d ∷ ds) = front_of w pools rank d ∷ fronts_from w pools (suc rank) ds

-- the front of each duty by rank
abbrev pub fronts_of : {V : Type 0} → Terms V → List (List (Label V)) → List (List (Label V))
fronts_of w pools = fronts_from w pools 0 w.net.duties

-- the labels of the fronts of the duties that arrive there
abbrev pub arriving_labels : {V : Type 0} → Terms V → List (List (Label V)) → Arrival
    → List (Label V)
arriving_labels w fronts x =
    flat_map (λ rank. get_or fronts rank []) (ranks_where (arrives_at x) w.net.duties)

-- the pool of an arrival
abbrev pub arrival_pool : {V : Type 0} → Terms V → List (List (Label V)) → Arrival
    → List (Label V)
arrival_pool w pools x = pool_among w pools (arriving_labels w (fronts_of w pools) x)

-- the pool that a rest after an arrival goes by: of its labels with rested values
abbrev pub rested_pool : {V : Type 0} → Terms V → List (List (Label V)) → Arrival → List (Label V)
rested_pool w pools x = pool_among w pools (map (waited_label w.rest) (arrival_pool w pools x))

-- the labels of an arrival, as they stand at a departure
abbrev pub waited_labels : {V : Type 0} → Terms V → List (List (Label V)) → Departure → Arrival
    → List (Label V)
waited_labels w pools g x = map (waited_label (λ v. w.wait v x g)) (arrival_pool w pools x)

-- the empty label, where the base is, and the labels of all arrivals that the departure may wait on
abbrev pub waiting_labels : {V : Type 0} → Terms V → List (List (Label V)) → Departure
    → List (Label V)
waiting_labels w pools g = idle_labels (eq_by_cmp code_cmp g.airport w.base) (w.idle g)
    ++ flat_map (waited_labels w pools g)
    (filter (λ x. may_wait w.net.settings x g) w.net.arrivals)

-- the pool of a departure
abbrev pub departure_pool : {V : Type 0} → Terms V → List (List (Label V)) → Departure
    → List (Label V)
departure_pool w pools g = pool_among w pools (waiting_labels w pools g)

-- the pools of the first so many departures in order of report, each made of those before it
abbrev pub pools_upto : {V : Type 0} → Terms V → ℕ → List (List (Label V))
pools_upto w zero = []
pools_upto w (suc n) = pools_upto w n
    ++ departure_pool w (pools_upto w n)
    (departure_at w.net.departures (get_or w.net.by_report n 0)) ∷ []

-- the pools of departures by position, of arrivals by place, those that rests after these go by, and
-- the fronts of duties by rank
pub record Labelling (V : Type 0) : Type 0 where
  pub departures : List (List (Label V))
  pub arrivals : List (List (Label V))
  pub rested : List (List (Label V))
  pub fronts : List (List (Label V))

-- what the pools of departures make of the rest
abbrev pub labelling_by : {V : Type 0} → Terms V → List (List (Label V)) → Labelling V
labelling_by w pools = record {
  departures = pools;
  arrivals = map (arrival_pool w pools) w.net.arrivals;
  rested = map (rested_pool w pools) w.net.arrivals;
  fronts = fronts_of w pools;
}

-- the labelling of the terms' network
unfoldable pub labelling_of : {V : Type 0} → Terms V → Labelling V
labelling_of w = labelling_by w (pools_upto w (length w.net.by_report))

-- the table of its departures, into which all links of its labels lead
abbrev pub table_of : {V : Type 0} → Terms V → Labelling V → Tabled V
table_of w y = record { leaves = w.leaves; pools = y.departures }
