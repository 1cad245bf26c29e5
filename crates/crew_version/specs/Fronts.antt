-- The front that a base and a key name.
use Rattle.std.specs.Prelude.{◌≡◌, ℕ, ℤ, List, Option, Some, None}
use Rattle.std.specs.FinMap as map
use Rattle.crew_plan.specs.crew_answers.Fronts.{IsFrontAt, RiseByVector}
use Rattle.crew_plan.specs.crew_answers.LongVectors.{LongVector}
use Rattle.crew_flights.specs.Timetable.{Timetable}
use Rattle.crew_pairing.specs.Duties.{flights_of}
use Rattle.crew_pairing.specs.Legs.{Leg}
use Rattle.crew_pairing.specs.Pairings.{IsDuty}
use Rattle.crew_pairing.specs.declared.duty.Duty.{Duty}
use Rattle.crew_rules.specs.declared.settings.Settings.{Settings}

-- the front of a base and of the legal duty of a key, in order of vector; none where the code is no
-- base, or no legal duty has the key
abbrev pub IsFrontByKey : Settings → Timetable → List ℕ → List Leg
    → Option (List (LongVector × List (List Leg))) → Type 0
IsFrontByKey s t base key None = (price : ℤ) (d : Duty) → map.get t.bases base ≡ Some price
    → IsDuty s (flights_of t) d → d.key ≡ key → ⊥
IsFrontByKey s t base key (Some entries) = (price : ℤ) × (d : Duty)
    × (map.get t.bases base ≡ Some price) × IsDuty s (flights_of t) d × (d.key ≡ key)
    × IsFrontAt s t base price d entries × RiseByVector entries
