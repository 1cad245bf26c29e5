-- The departures of a timetable as slots: where and when, as one number, and which flight.
use Rattle.std.specs.Prelude.{◌≡◌, Bool, true, ◌&&◌, int_le, int_lt, if◌then◌else◌, ℕ, suc, ◌+◌, ◌*◌, ◌≤◌, ◌<◌, ℤ, pos, ◌+ℤ◌, ◌-ℤ◌, ◌≤ℤ◌, List, [], ◌∷◌, length, get_or, IsPermutation}
use Rattle.crew_time.specs.Instant.{IsInstant}
use Rattle.std.specs.Ordering.{eq_by_cmp}
use Rattle.crew_flights.specs.Codes.{code_cmp, is_code}
use Rattle.crew_flights.specs.Timetable.{Turns}
use Rattle.crew_flights.specs.declared.flight.Flight.{Flight}
use Rattle.crew_rules.specs.declared.settings.Settings.{Settings}
use Rattle.crew_pairing.specs.Legality.{may_follow}
use Rattle.crew_resource.specs.Members.{Each}
use Rattle.crew_duty.specs.declared.departures.Slot.{Slot}

-- the letters of an airport as one number
abbrev pub code_number : List ℕ → ℕ
code_number code = get_or code 0 0 * 65_536 + get_or code 1 0 * 256 + get_or code 2 0

-- an airport and a minute as one number: airports lie further apart than any two minutes
abbrev pub moment : List ℕ → ℤ → ℤ
moment airport minute = pos (code_number airport * 134_217_728) +ℤ minute

abbrev pub slot_of : ℕ → Flight → Slot
slot_of place flight = record { at = moment flight.from flight.dep; place = place }

-- the slots of flights that stand from a place on
abbrev pub slots_from : ℕ → List Flight → List Slot
slots_from place [] = []
slots_from place (f ∷ fs) = slot_of place f ∷ slots_from (suc place) fs

-- the airport is one, and the time an instant
pub record IsNamed (f : Flight) : Type 0 where
  pub code : is_code f.from ≡ true
  pub time : IsInstant f.dep

-- no slot is later than one after it
abbrev pub Ascend : List Slot → Type 0
Ascend slots = (i j : ℕ) (d : Slot) → i ≤ j → j < length slots
    → (get_or slots i d).at ≤ℤ (get_or slots j d).at

-- from one moment to another, both included
abbrev pub is_between : ℤ → ℤ → Slot → Bool
is_between earliest latest slot = int_le earliest slot.at && int_le slot.at latest

-- all departures, by airport and time
pub record IsIndex (flights : List Flight) (slots : List Slot) : Type 0 where
  pub named : Each IsNamed flights
  pub all : IsPermutation (slots_from 0 flights) slots
  pub ascending : Ascend slots

-- a flight that leaves where another arrives, after a gap from so many minutes to `sit`
abbrev pub is_after : Settings → ℕ → Flight → Flight → Bool
is_after s least before next =
    eq_by_cmp code_cmp before.to next.from
    && (int_le (pos least) (next.dep -ℤ before.arr) && int_le (next.dep -ℤ before.arr) (pos s.sit))

-- the same, and it departs by a minute
abbrev pub is_after_by : Settings → ℕ → ℤ → Flight → Flight → Bool
is_after_by s least latest before next = is_after s least before next && int_le next.dep latest

-- a flight that may follow another, and departs by a minute
abbrev pub follows_by : Settings → Turns → ℤ → Flight → Flight → Bool
follows_by s turns latest before next = may_follow s turns before next && int_le next.dep latest

abbrev pub earlier : ℤ → ℤ → ℤ
earlier a b = if int_lt a b then a else b

-- a minute of an instant
abbrev pub IsTime : ℤ → Type 0
IsTime = IsInstant
