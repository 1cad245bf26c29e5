-- When a labelling is right: each of its lists rises, has what labels there have, and is the pool or
-- the front of what its other lists offer; and links lead back.
use Rattle.std.specs.Prelude.{◌≡◌, ℕ, List, [], Some, get_or, length, slice_get}
use Rattle.crew_label.specs.Pools.{AreRising}
use Rattle.crew_label.specs.Tables.{AreLinked}
use Rattle.crew_label.specs.declared.label.Label.{Label}
use Rattle.crew_net.specs.Positions.{in_order}
use Rattle.crew_pairing.specs.declared.duty.Duty.{Duty}
use Rattle.crew_pairing.specs.declared.events.Arrival.{Arrival}
use Rattle.crew_pairing.specs.declared.events.Departure.{Departure}
use Rattle.crew_labelling.specs.Candidates.{AreFront, AreGathered, Arrives, IsRested, Waits}
use Rattle.crew_labelling.specs.Held.{AreReady, HaveArrived, trail_of}
use Rattle.crew_labelling.specs.Labellings.{Labelling, table_of}
use Rattle.crew_labelling.specs.Terms.{Terms}

-- the pool of a departure: of the empty label and of what waits there of the arrivals
pub record IsDeparturePool {V : Type 0} (w : Terms V) (y : Labelling V) (g : Departure)
    (labels : List (Label V)) : Type 0 where
  pub rises : AreRising w.cmp labels
  pub ready : AreReady w (table_of w y) labels
  pub gathered : AreGathered w (trail_of (table_of w y))
      (Waits w (trail_of (table_of w y)) y.arrivals g) labels

-- the pool of an arrival: of the fronts of the duties that arrive there
pub record IsArrivalPool {V : Type 0} (w : Terms V) (y : Labelling V) (x : Arrival)
    (labels : List (Label V)) : Type 0 where
  pub rises : AreRising w.cmp labels
  pub held : HaveArrived w (table_of w y) labels
  pub gathered : AreGathered w (trail_of (table_of w y))
      (Arrives w.net (trail_of (table_of w y)) y.fronts x) labels

-- what a rest after the arrival at a place goes by
pub record IsRestedPool {V : Type 0} (w : Terms V) (y : Labelling V) (place : ℕ)
    (labels : List (Label V)) : Type 0 where
  pub rises : AreRising w.cmp labels
  pub rested : IsRested w (table_of w y) (get_or y.arrivals place []) labels

-- the front of a duty: what dominance leaves of the labels that board it from the pool of its
-- departure
pub record IsDutyFront {V : Type 0} (w : Terms V) (y : Labelling V) (rank : ℕ) (d : Duty)
    (labels : List (Label V)) : Type 0 where
  pub rises : AreRising w.cmp labels
  pub held : HaveArrived w (table_of w y) labels
  pub front : AreFront w (trail_of (table_of w y)) d rank
      (get_or y.departures (get_or w.leaves.positions rank 0) []) labels

-- all of a labelling is
pub record IsRight {V : Type 0} (w : Terms V) (y : Labelling V) : Type 0 where
  pub departures_long : length y.departures ≡ length w.net.by_report
  pub arrivals_long : length y.arrivals ≡ length w.net.arrivals
  pub rested_long : length y.rested ≡ length w.net.arrivals
  pub fronts_long : length y.fronts ≡ length w.net.duties
  pub departures : (i : ℕ) (g : Departure) → slice_get (in_order w.net) i ≡ Some g
      → IsDeparturePool w y g (get_or y.departures i [])
  pub arrivals : (place : ℕ) (x : Arrival) → slice_get w.net.arrivals place ≡ Some x
      → IsArrivalPool w y x (get_or y.arrivals place [])
  pub rested : (place : ℕ) (x : Arrival) → slice_get w.net.arrivals place ≡ Some x
      → IsRestedPool w y place (get_or y.rested place [])
  pub fronts : (rank : ℕ) (d : Duty) → slice_get w.net.duties rank ≡ Some d
      → IsDutyFront w y rank d (get_or y.fronts rank [])
  pub linked : AreLinked w.leaves [] y.departures
