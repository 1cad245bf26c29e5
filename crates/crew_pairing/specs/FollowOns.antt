-- What a follow-on says of pairings.
use Rattle.std.specs.Prelude.{◌≡◌, ◌∷◌, ◌++◌, ℕ, true, List, [], Some, map as list_map}
use Rattle.std.specs.List.{flat_map}
use Rattle.std.specs.FinMap as map
use Rattle.crew_flights.specs.Timetable.{IsSound, Timetable}
use Rattle.crew_rules.specs.declared.settings.Settings.{Settings}
use Rattle.crew_pairing.specs.Duties.{flights_of}
use Rattle.crew_pairing.specs.Pairings.{AllRested, IsDuty, IsPartial, is_pairing, last_duty}
use Rattle.crew_resource.specs.Members.{Each}
use Rattle.crew_pairing.specs.declared.duty.Duty.{Duty}

-- the flights of a list of duties by number, flown or ridden, in order
abbrev pub numbers_of : List Duty → List ℕ
numbers_of duties = flat_map (λ d. list_map (λ leg. leg.flight) d.key) duties

-- wherever the first stands in a list the second is the next, and wherever the second stands the first
-- is the one before
pub record StandTogether (first second : ℕ) (numbers : List ℕ) : Type 0 where
  pub next : (left right : List ℕ) → numbers ≡ left ++ first ∷ right
      → (rest : List ℕ) × (right ≡ second ∷ rest)
  pub back : (left right : List ℕ) → numbers ≡ left ++ second ∷ right
      → (rest : List ℕ) × (left ≡ rest ++ first ∷ [])

-- legal duties of a timetable, one after another, which leave a base and come back to it, have a flight
-- and the one that follows it together or neither: in one duty, or as the last leg of a duty and the
-- first of the next
abbrev pub FollowOnsHold : Type 0
FollowOnsHold = (s : Settings) (t : Timetable) (base : List ℕ) (first : Duty) (others : List Duty)
    (before after : ℕ) → IsSound t → map.contains_key t.bases base ≡ true
    → map.get t.follows before ≡ Some after → Each (IsDuty s (flights_of t)) (first ∷ others)
    → AllRested s first others → first.from ≡ base → (last_duty first others).to ≡ base
    → StandTogether before after (numbers_of (first ∷ others))

-- and so has each pairing of a base
abbrev pub FollowOnsHoldInPairings : Type 0
FollowOnsHoldInPairings = (s : Settings) (t : Timetable) (base : List ℕ) (first : Duty)
    (others : List Duty) (before after : ℕ) → IsSound t → map.contains_key t.bases base ≡ true
    → map.get t.follows before ≡ Some after → IsPartial s (flights_of t) base first others
    → is_pairing base first others ≡ true
    → StandTogether before after (numbers_of (first ∷ others))
