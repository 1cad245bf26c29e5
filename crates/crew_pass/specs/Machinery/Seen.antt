-- What a thread has seen of the pools of a pass, each the one that the labelling has there.
use Rattle.std.specs.Prelude.{ℕ, get_or}
use Rattle.crew_labelling.specs.Labellings.{labelling_of}
use Rattle.crew_labelling.specs.Terms.{Terms}
use Rattle.crew_pairing.specs.declared.duty.Duty.{Duty}
use Rattle.crew_pass.specs.Machinery.Passing.{ArrivesAt, MayWaitAt}
use Rattle.crew_pass.specs.Machinery.Shelves.{AreRight, IsThere, StaysThere}
use Rattle.crew_pass.specs.declared.seen.Seen.{Seen}

-- all that is seen is right, and so has been what it is made of
pub record AreSeen {R V : Type 0} (w : Terms V) (seen : Seen R V Duty) : Type 0 where
  pub departures : AreRight (labelling_of w).departures seen.departures
  pub arrivals : AreRight (labelling_of w).arrivals seen.arrivals
  pub rested : AreRight (labelling_of w).rested seen.rested
  pub fronts : AreRight (labelling_of w).fronts seen.fronts
  pub waited : (position place : ℕ) → IsThere seen.departures position
      → MayWaitAt w.net position place → IsThere seen.arrivals place
  pub gathered : (place rank : ℕ) → IsThere seen.arrivals place → ArrivesAt w.net place rank
      → IsThere seen.departures (get_or w.leaves.positions rank 0)
  pub boarded : (rank : ℕ) → IsThere seen.fronts rank
      → IsThere seen.departures (get_or w.leaves.positions rank 0)

-- all that was seen is seen still
pub record StaySeen {R V : Type 0} (was is : Seen R V Duty) : Type 0 where
  pub departures : StaysThere was.departures is.departures
  pub arrivals : StaysThere was.arrivals is.arrivals
  pub rested : StaysThere was.rested is.rested
  pub fronts : StaysThere was.fronts is.fronts
