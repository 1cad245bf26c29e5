-- The labelling is right, and whatever is right beside it is of it.
use Rattle.std.proofs.Common.{◌≡◌, ℕ, List, [], Some, get_or}
use Rattle.std.specs.Prelude.{slice_get}
use Rattle.crew_label.specs.Pools.{AreRising}
use Rattle.crew_label.specs.declared.label.Label.{Label}
use Rattle.crew_net.specs.Positions.{in_order}
use Rattle.crew_pairing.specs.declared.duty.Duty.{Duty}
use Rattle.crew_pairing.specs.declared.events.Arrival.{Arrival}
use Rattle.crew_pairing.specs.declared.events.Departure.{Departure}
use Rattle.crew_labelling.specs.Candidates.{AreFront, AreGathered, Arrives, IsRested, Waits}
use Rattle.crew_labelling.specs.Held.{AreReady, HaveArrived, trail_of}
use Rattle.crew_labelling.specs.Labellings.{labelling_of, table_of}
use Rattle.crew_labelling.specs.Right.{IsRight}
use Rattle.crew_labelling.specs.Terms.{AreLawful, AreTerms, Terms}
use Rattle.crew_labelling.proofs.Only.{arrival-only, departure-only, front-only, rested-only}
use Rattle.crew_labelling.proofs.Right.{arrivals-gathered, arrivals-held, arrivals-long, arrivals-rise, departures-gathered, departures-linked, departures-long, departures-ready, departures-rise, fronts-are, fronts-held, fronts-long, fronts-rise, rested-are, rested-long, rested-rise}

module _ {V : Type 0} (w : Terms V) (terms : AreTerms w) (lawful : AreLawful w) where
  -- the labelling is right
  pub is-right : IsRight w (labelling_of w)
  is-right = record {
    departures_long = departures-long w terms;
    arrivals_long = arrivals-long w terms;
    rested_long = rested-long w terms;
    fronts_long = fronts-long w terms;
    departures = λ i g at. record { rises = departures-rise w terms lawful i; ready = departures-ready w terms lawful i; gathered = departures-gathered w terms lawful i g at };
    arrivals = λ place x at. record { rises = arrivals-rise w terms lawful place; held = arrivals-held w terms lawful place; gathered = arrivals-gathered w terms lawful place x at };
    rested = λ place x at. record { rises = rested-rise w terms lawful place; rested = rested-are w terms lawful place };
    fronts = λ rank d known. record { rises = fronts-rise w terms lawful rank; held = fronts-held w terms lawful rank; front = fronts-are w terms lawful rank d known };
    linked = departures-linked w terms lawful;
  }

  -- the pool of a departure is one
  pub departure-one : (i : ℕ) (g : Departure) → slice_get (in_order w.net) i ≡ Some g → (labels : List (Label V)) → AreRising w.cmp labels → AreReady w (table_of w (labelling_of w)) labels
      → AreGathered w (trail_of (table_of w (labelling_of w))) (Waits w (trail_of (table_of w (labelling_of w))) (labelling_of w).arrivals g) labels → labels ≡ get_or (labelling_of w).departures i []
  departure-one i g at labels rises ready gathered = departure-only w terms lawful (labelling_of w) is-right i g at labels (record { rises = rises; ready = ready; gathered = gathered })

  -- that of an arrival
  pub arrival-one : (place : ℕ) (x : Arrival) → slice_get w.net.arrivals place ≡ Some x → (labels : List (Label V)) → AreRising w.cmp labels → HaveArrived w (table_of w (labelling_of w)) labels
      → AreGathered w (trail_of (table_of w (labelling_of w))) (Arrives w.net (trail_of (table_of w (labelling_of w))) (labelling_of w).fronts x) labels → labels ≡ get_or (labelling_of w).arrivals place []
  arrival-one place x at labels rises held gathered = arrival-only w terms lawful (labelling_of w) is-right place x at labels (record { rises = rises; held = held; gathered = gathered })

  -- what a rest goes by
  pub rested-one : (place : ℕ) (x : Arrival) → slice_get w.net.arrivals place ≡ Some x → (labels : List (Label V)) → AreRising w.cmp labels
      → IsRested w (table_of w (labelling_of w)) (get_or (labelling_of w).arrivals place []) labels → labels ≡ get_or (labelling_of w).rested place []
  rested-one place x at labels rises is = rested-only w terms lawful (labelling_of w) is-right place x at labels (record { rises = rises; rested = is })

  -- and the front of a duty
  pub front-one : (rank : ℕ) (d : Duty) → slice_get w.net.duties rank ≡ Some d → (labels : List (Label V)) → AreRising w.cmp labels → HaveArrived w (table_of w (labelling_of w)) labels
      → AreFront w (trail_of (table_of w (labelling_of w))) d rank (get_or (labelling_of w).departures (get_or w.leaves.positions rank 0) []) labels → labels ≡ get_or (labelling_of w).fronts rank []
  front-one rank d known labels rises held is = front-only w terms lawful (labelling_of w) is-right rank d known labels (record { rises = rises; held = held; front = is })
