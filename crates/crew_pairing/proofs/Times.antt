-- The times of connected legs.
use Rattle.std.proofs.Common.{◌≡◌, ◌*◌, ℕ, ℤ, pos, ◌-ℤ◌, ◌≤ℤ◌, List, [], ◌∷◌, Bool, true, false, length, refl, arith, if◌then◌else◌, int_le, ◌&&◌}
use Rattle.std.proofs.lemmas.Int.{ints}
use Rattle.crew_flights.specs.Timetable.{IsFlight, Turns}
use Rattle.crew_flights.specs.declared.flight.Flight.{Flight}
use Rattle.crew_rules.specs.declared.settings.Settings.{Settings}
use Rattle.crew_pairing.specs.Legality.{AllConnect, last_of, may_follow, minutes_flown, total, turn_time}
use Rattle.crew_resource.specs.Members.{Each}
use Rattle.crew_pairing.specs.declared.leg.TimedLeg.{TimedLeg}

abbrev pub AllSound : List TimedLeg → Type 0
AllSound legs = Each (λ l. IsFlight l.flight.id l.flight) legs

-- a flight that may follow another departs no earlier than that one arrives
gap-tests : (a b c : Bool) → (a && (b && c)) ≡ true → b ≡ true
gap-tests true true c e = refl
gap-tests true false c e = e
gap-tests false true c e = refl
gap-tests false false c e = e

from-gap : (n : ℕ) (arr dep : ℤ) → int_le (pos n) (dep -ℤ arr) ≡ true → arr ≤ℤ dep
from-gap n arr dep gap = grind (arith, ints)

pub no-earlier : (s : Settings) (turns : Turns) (a b : Flight) → may_follow s turns a b ≡ true → a.arr ≤ℤ b.dep
no-earlier s turns a b e = let gap : int_le (pos (turn_time s turns a b)) (b.dep -ℤ a.arr) ≡ true = gap-tests _ _ _ e in from-gap (turn_time s turns a b) a.arr b.dep gap

-- the last leg of a beginning arrives no earlier than the first departs
pub ends-later : (s : Settings) (turns : Turns) (first : TimedLeg) (others : List TimedLeg) → AllSound (first ∷ others) → AllConnect s turns first others
    → first.flight.dep ≤ℤ (last_of first others).flight.arr
ends-later s turns first [] sound linked = omega (arith, ints, sound.0.least_block)
ends-later s turns first (next ∷ others) sound linked =
    omega (arith, ints, sound.0.least_block, no-earlier s turns first.flight next.flight linked.0, ends-later s turns next others sound.1 linked.1)

-- the crew flies no less than nothing on a leg
flown-by : (b : Bool) (z : ℤ) → pos 1 ≤ℤ z → z ≤ℤ pos 1_440 → (pos 0 ≤ℤ (if b then pos 0 else z)) × ((if b then pos 0 else z) ≤ℤ pos 1_440)
flown-by true z h k = (omega (arith, ints), omega (arith, ints))
flown-by false z h k = (omega (arith, ints), k)

pub flown-between : (l : TimedLeg) → IsFlight l.flight.id l.flight → (pos 0 ≤ℤ minutes_flown l) × (minutes_flown l ≤ℤ pos 1_440)
flown-between l sound = flown-by l.deadhead _ sound.least_block sound.most_block

pub flown-total : (legs : List TimedLeg) → AllSound legs → (pos 0 ≤ℤ total minutes_flown legs) × (total minutes_flown legs ≤ℤ pos (1_440 * length legs))
flown-total [] sound = (omega (arith, ints), omega (arith, ints))
flown-total (l ∷ legs) sound =
    (omega (arith, ints, flown-between l sound.0, flown-total legs sound.1), omega (arith, ints, flown-between l sound.0, flown-total legs sound.1))
