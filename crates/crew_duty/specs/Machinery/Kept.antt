-- What the duties of an earlier timetable tell of those of a later one.
use Rattle.std.specs.Prelude.{◌≡◌, ◌⊎◌, ◌≤◌, ◌<◌, ◌≤ℤ◌, ◌&&◌, int_le, nat_eq, Bool, false, ℕ, ℤ, List, [], ◌∷◌, None, Option, Some, filter, get_or, length}
use Rattle.crew_flights.specs.Timetable.{Turns}
use Rattle.crew_flights.specs.declared.flight.Flight.{Flight}
use Rattle.crew_rules.specs.declared.settings.Settings.{Settings}
use Rattle.crew_resource.specs.Members.{Each, Member}
use Rattle.crew_pairing.specs.Flights.{Flights}
use Rattle.crew_pairing.specs.Legs.{Leg}
use Rattle.crew_pairing.specs.Machinery.Blocks.{part_of}
use Rattle.crew_pairing.specs.Machinery.Listing.{from_flight, timed}
use Rattle.crew_pairing.specs.declared.duty.Duty.{Duty}
use Rattle.crew_duty.specs.Machinery.Limits.{latest_departure}
use Rattle.crew_duty.specs.Machinery.Turns.{turns_from}
use Rattle.crew_duty.specs.declared.past.Block.{Block}

-- a minute from one to another, both included
abbrev pub is_within : ℤ → ℤ → ℤ → Bool
is_within from to minute = int_le from minute && int_le minute to

-- a flight that departs in such a minute
abbrev pub departs_within : ℤ → ℤ → Flight → Bool
departs_within from to f = is_within from to f.dep

-- no leg of a duty that begins with a flight departs later
abbrev pub reach_of : Settings → Flight → ℤ
reach_of s f = latest_departure s (timed false f) []

-- minutes none of which lies between two
abbrev pub AreApart : ℤ → ℤ → List ℤ → Type 0
AreApart from to minutes = Each (λ m. is_within from to m ≡ false) minutes

-- minutes, none later than one after it
abbrev pub ClimbInTime : List ℤ → Type 0
ClimbInTime minutes = (i j : ℕ) (d : ℤ) → i ≤ j → j < length minutes
    → get_or minutes i d ≤ℤ get_or minutes j d

-- each of some flights stands in others, with the same facts, or departs in one of some minutes
abbrev pub TellChanges : List Flight → List Flight → List ℤ → Type 0
TellChanges flights others minutes = Each (λ f. Member others f ⊎ Member minutes f.dep) flights

-- each of some flights has the same turns to next legs as before, or departs in one of some minutes
abbrev pub TellTurns : List Flight → Turns → Turns → List ℤ → Type 0
TellTurns flights turns others minutes = Each
    (λ f. (turns_from turns f.id ≡ turns_from others f.id) ⊎ Member minutes f.dep) flights

-- when flights depart that stand in one of two lists alone, or whose turns to next legs have changed,
-- in order
pub record AreChanges (flights others : Flights) (minutes : List ℤ) : Type 0 where
  pub come : TellChanges flights.list others.list minutes
  pub gone : TellChanges others.list flights.list minutes
  pub turned : TellTurns flights.list flights.turns others.turns minutes
  pub climb : ClimbInTime minutes

-- the number of the flight that a key begins with
abbrev pub first_of : List Leg → ℕ
first_of [] = 0
first_of (l ∷ legs) = l.flight

-- a duty whose first leg is of the flight of a number
abbrev pub begins_with : ℕ → Duty → Bool
begins_with number d = nat_eq (first_of d.key) number

-- duties, none of which begins with a flight of a greater number than one after it
abbrev pub ClimbByFirst : List Duty → Type 0
ClimbByFirst duties = (i j : ℕ) (d : Duty) → i ≤ j → j < length duties
    → first_of (get_or duties i d).key ≤ first_of (get_or duties j d).key

-- earlier duties, and when flights depart that have come, gone or changed since, or their turns: where none of
-- these departs while a duty of a flight may last, the flight's duties are those of before
pub record IsPast (s : Settings) (flights : Flights) (duties : List Duty)
    (minutes : List ℤ) : Type 0 where
  pub duties_climb : ClimbByFirst duties
  pub minutes_climb : ClimbInTime minutes
  pub same : Each (λ f. AreApart f.dep (reach_of s f) minutes
      → filter (begins_with f.id) duties ≡ from_flight s flights f) flights.list

-- the first place of a duty that begins with a flight of no lesser number
pub record IsStart (duties : List Duty) (number place : ℕ) : Type 0 where
  pub within : place ≤ length duties
  pub before : (k : ℕ) (d : Duty) → k < place → first_of (get_or duties k d).key < number
  pub after : (k : ℕ) (d : Duty) → place ≤ k → k < length duties
      → number ≤ first_of (get_or duties k d).key

-- earlier duties, between two places, that are those of a flight still
pub record IsKept (s : Settings) (flights : Flights) (duties : List Duty) (f : Flight)
    (block : Block) : Type 0 where
  pub ordered : block.from ≤ block.to
  pub within : block.to ≤ length duties
  pub same : part_of duties block.from block.to ≡ from_flight s flights f

-- the same, where they are known to be
abbrev pub MayBeKept : Settings → Flights → List Duty → Flight → Option Block → Type 0
MayBeKept s flights duties f None = Unit {0}
MayBeKept s flights duties f (Some block) = IsKept s flights duties f block

-- of each flight, what is known of its duties
abbrev pub AreKept : Settings → Flights → List Duty → List Flight → List (Option Block)
    → Type 0
AreKept s flights duties [] [] = Unit {0}
AreKept s flights duties [] (block ∷ blocks) = ⊥
AreKept s flights duties (f ∷ fs) [] = ⊥
AreKept s flights duties (f ∷ fs) (block ∷ blocks) = MayBeKept s flights duties f block
    × AreKept s flights duties fs blocks
