-- The work on one node: what the front of a base and a duty is made from.
use Rattle.std.specs.Prelude.{◌≡◌, ℕ, true, ℤ, List, ◌∷◌, Some, map}
use Rattle.crew_flights.specs.Timetable.{IsBasePrice}
use Rattle.crew_pairing.specs.Duties.{RiseByKey}
use Rattle.crew_pairing.specs.Events.{IsSound}
use Rattle.crew_pairing.specs.Legs.{Leg}
use Rattle.crew_pairing.specs.Pairings.{last_duty, may_stand_after}
use Rattle.crew_pairing.specs.declared.duty.Duty.{Duty}
use Rattle.crew_pairing.specs.declared.vector.PairingVector.{PairingVector}
use Rattle.crew_resource.specs.Members.{Member}
use Rattle.crew_rules.specs.Settings.{IsChecked, SumsTellAll}
use Rattle.crew_rules.specs.declared.settings.Settings.{Settings}
use Rattle.crew_vector.specs.Fronts.{RiseByVector, walk_of}
use Rattle.crew_vector.specs.Locals.{Feed, IsLocalAt}
use Rattle.crew_vector.specs.Machinery.Along.{IsLine}
use Rattle.crew_vector.specs.Values.{value_of}

-- a base with its price, a duty, and the duties just before it, each with its front
pub record Job : Type 0 where
  pub settings : Settings
  pub base : List ℕ
  pub base_price : ℤ
  pub duty : Duty
  pub feed : Feed

-- an entry at a duty is the value of its walk there: of sound duties, each of which may follow the
-- one before, the last of them this one
pub record IsValueAt (s : Settings) (price : ℤ) (d : Duty) (v : PairingVector) (w : List (List Leg))
    : Type 0 where
  pub first : Duty
  pub others : List Duty
  pub line : IsLine (first ∷ others)
  pub ends : last_duty first others ≡ d
  pub value : value_of s price (first ∷ others) ≡ Some v
  pub walk : w ≡ walk_of (first ∷ others)

-- the duty may stand just after each, by key, and each entry of their fronts is the value of its
-- walk there
pub record AreBefore (s : Settings) (price : ℤ) (d : Duty) (feed : Feed) : Type 0 where
  pub rising : RiseByKey (map (λ p. p.0) feed)
  pub rested : (e : Duty) (es : List (PairingVector × List (List Leg))) → Member feed (e, es)
      → may_stand_after s e d ≡ true
  pub values : (e : Duty) (es : List (PairingVector × List (List Leg))) → Member feed (e, es)
      → (v : PairingVector) (w : List (List Leg)) → Member es (v, w) → IsValueAt s price e v w

-- what a job keeps
pub record IsJob (j : Job) : Type 0 where
  pub checked : IsChecked j.settings
  pub sums : SumsTellAll j.settings
  pub price : IsBasePrice j.base_price
  pub sound : IsSound j.duty
  pub before : AreBefore j.settings j.base_price j.duty j.feed

-- a job, and the entries that its candidates leave
pub record Done : Type 0 where
  pub job : Job
  pub front : List (PairingVector × List (List Leg))

-- the entries are local to the job, in order of vector; so each is the value of its walk, as the
-- jobs after it want them
pub record IsDone (d : Done) : Type 0 where
  pub local : IsLocalAt d.job.settings d.job.base d.job.base_price d.job.duty d.job.feed d.front
  pub rises : RiseByVector d.front
  pub values : (v : PairingVector) (w : List (List Leg)) → Member d.front (v, w)
      → IsValueAt d.job.settings d.job.base_price d.job.duty v w
