-- The pool of a departure in two labellings: of the same arrivals, whose pools are the same.
use Rattle.std.proofs.Common.{◌≡◌, ◌+◌, ◌++◌, ℕ, List, [], Some, length, get_or, ap, arith}
use Rattle.std.specs.Prelude.{slice_get}
use Rattle.std.specs.List.{flat_map}
use Rattle.std.specs.Ordering.{eq_by_cmp}
use Rattle.crew_flights.specs.Codes.{code_cmp}
use Rattle.crew_label.specs.Tables.{Leaving}
use Rattle.crew_label.specs.declared.label.Label.{Label}
use Rattle.crew_net.specs.Events.{IsWindow}
use Rattle.crew_net.specs.Nets.{Net}
use Rattle.crew_net.specs.Positions.{in_order}
use Rattle.crew_net.specs.declared.window.Window.{Window}
use Rattle.crew_net.proofs.Slices.{some-same}
use Rattle.crew_pairing.specs.Events.{may_wait}
use Rattle.crew_pairing.specs.declared.events.Arrival.{Arrival}
use Rattle.crew_pairing.specs.declared.events.Departure.{Departure}
use Rattle.crew_labelling.specs.Beside.{AreSame, WaitAlike}
use Rattle.crew_labelling.specs.Candidates.{idle_labels}
use Rattle.crew_labelling.specs.Labellings.{arrival_pool, departure_pool, labelling_of, waited_labels, waiting_labels}
use Rattle.crew_labelling.specs.Terms.{Terms}
use Rattle.crew_labelling.proofs.BesideArrivals.{arrivals-shared, pooled}
use Rattle.crew_labelling.proofs.BesideLabels.{ArePaired, AreShared, beside, same-from-shared, shared-append, shared-as, shared-flat, shared-idle, shared-waited}
use Rattle.crew_labelling.proofs.BesideWindows.{filter-is-part, part, part-got, part-long}
use Rattle.crew_labelling.proofs.Right.{departure-is}

module _ {V : Type 0} (w : Terms V) (other : Net) (others : List ℕ) (leaving : Leaving) (pair : ArePaired w (beside w other others leaving))
    (g : Departure) (a b : Window) (window : IsWindow (λ x. may_wait w.net.settings x g) w.net.arrivals a) (window-there : IsWindow (λ x. may_wait other.settings x g) other.arrivals b) where
  abbrev z : Terms V
  z = beside w other others leaving

  abbrev pools : List (List (Label V))
  pools = (labelling_of w).departures

  abbrev pools-there : List (List (Label V))
  pools-there = (labelling_of z).departures

  abbrev waited : Arrival → List (Label V)
  waited = waited_labels w pools g

  abbrev waited-there : Arrival → List (Label V)
  waited-there = waited_labels z pools-there g

  abbrev open-part : List Arrival
  open-part = part w.net.arrivals a

  abbrev open-there : List Arrival
  open-there = part z.net.arrivals b

  abbrev idles : List (Label V)
  idles = idle_labels (eq_by_cmp code_cmp g.airport w.base) (w.idle g)

  module _ (alike : WaitAlike w z a b) where
    as-long : length open-part ≡ length open-there
    as-long =
        let here = part-long (λ x. may_wait w.net.settings x g) w.net.arrivals a window in
        let there = part-long (λ x. may_wait z.net.settings x g) z.net.arrivals b window-there in
        let ordered = window.ordered in
        let ordered-there = window-there.ordered in
        let long = alike.long in
        omega (arith, here, there, ordered, ordered-there, long)

    -- at each place stands one arrival, with one pool
    each-shared : (k : ℕ) (x y : Arrival) → slice_get open-part k ≡ Some x → slice_get open-there k ≡ Some y → AreShared w z (waited x) (waited-there y)
    each-shared k x y p q =
        let here = part-got (λ x. may_wait w.net.settings x g) w.net.arrivals a window k x p in
        let there = part-got (λ x. may_wait z.net.settings x g) z.net.arrivals b window-there k y q in
        let one = alike.each k here.0 in
        let own : x ≡ one.0 = some-same (slice_get w.net.arrivals (a.from + k)) x one.0 here.1 one.1 in
        let theirs : y ≡ one.0 = some-same (slice_get z.net.arrivals (b.from + k)) y one.0 there.1 one.2 in
        shared-as w z (waited one.0) (waited-there one.0) (waited x) (waited-there y) (ap waited own) (ap waited-there theirs)
        (shared-waited w z (λ v. w.wait v one.0 g) (arrival_pool w pools one.0) (arrival_pool z pools-there one.0)
        (arrivals-shared w other others leaving pair (a.from + k) (b.from + k) one.0 one.1 one.2 one.3))

    waiting-shared : AreShared w z (waiting_labels w pools g) (waiting_labels z pools-there g)
    waiting-shared =
        shared-as w z (idles ++ flat_map waited open-part) (idles ++ flat_map waited-there open-there) (waiting_labels w pools g) (waiting_labels z pools-there g)
        (ap (λ (xs : List Arrival). idles ++ flat_map waited xs) (filter-is-part (λ x. may_wait w.net.settings x g) w.net.arrivals a window))
        (ap (λ (xs : List Arrival). idles ++ flat_map waited-there xs) (filter-is-part (λ x. may_wait z.net.settings x g) z.net.arrivals b window-there))
        (shared-append w z idles idles (flat_map waited open-part) (flat_map waited-there open-there) (shared-idle w z (eq_by_cmp code_cmp g.airport w.base) (w.idle g))
        (shared-flat w z waited waited-there open-part open-there as-long each-shared))

    pub departures-same : (i j : ℕ) → slice_get (in_order w.net) i ≡ Some g → slice_get (in_order z.net) j ≡ Some g
        → AreSame w z (get_or (labelling_of w).departures i []) (get_or (labelling_of z).departures j [])
    departures-same i j at at-there =
        same-from-shared w z (get_or (labelling_of w).departures i []) (get_or (labelling_of z).departures j [])
        (shared-as w z (departure_pool w pools g) (departure_pool z pools-there g) (get_or (labelling_of w).departures i []) (get_or (labelling_of z).departures j [])
        (departure-is w pair.here pair.lawful i g at) (departure-is z pair.there pair.lawful_there j g at-there)
        (pooled w other others leaving pair (waiting_labels w pools g) (waiting_labels z pools-there g) waiting-shared))
