-- What a text of a time means.
use Rattle.std.specs.Prelude.{◌≡◌, ◌+◌, ◌-◌, ◌*◌, ◌/◌, ◌%◌, ◌+ℤ◌, ◌*ℤ◌, ◌&&◌, ◌==◌, ℕ, ℤ, pos, nat_le, Bool, true, List, Option, Some, None, Result, Ok, Err, length, get_or, if◌then◌else◌}
use Rattle.std.specs.Option.{option_and_then}
use Rattle.jiff_core.specs.Calendar.{days_from_civil, days_in_month}
use Rattle.crew_clocks.specs.declared.civil.Parts.{Parts}
use Rattle.crew_clocks.specs.declared.fault.TimeFault.{TimeFault}
use Rattle.crew_clocks.specs.declared.fault.TimeFault.TheVariants.{BadTimeText, NoSuchTime, YearRange}

infixl 10 ◌>>=◌
abbrev pub ◌>>=◌ : {A B : Type 0} → Option A → (A → Option B) → Option B
o >>= f = option_and_then f o

-- a digit's byte
abbrev pub is_digit : ℕ → Bool
is_digit b = nat_le 48 b && nat_le b 57

-- two digits
abbrev pub two_of : ℕ → ℕ → Option ℕ
two_of a b = if is_digit a && is_digit b then Some ((a - 48) * 10 + (b - 48)) else None

-- the marks of `YYYY-MM-DDTHH:MM` stand in their places
abbrev pub has_marks : List ℕ → Bool
has_marks text = (length text == 16) && (get_or text 4 0 == 45) && (get_or text 7 0 == 45) &&
    (get_or text 10 0 == 84) && (get_or text 13 0 == 58)

-- the numbers of a text of this form
unfoldable pub form_of : List ℕ → Option Parts
form_of text = if has_marks text then (do
  century ← two_of (get_or text 0 0) (get_or text 1 0)
  year ← two_of (get_or text 2 0) (get_or text 3 0)
  month ← two_of (get_or text 5 0) (get_or text 6 0)
  day ← two_of (get_or text 8 0) (get_or text 9 0)
  hour ← two_of (get_or text 11 0) (get_or text 12 0)
  minute ← two_of (get_or text 14 0) (get_or text 15 0)
  Some (record {
    year = century * 100 + year;
    month = month;
    day = day;
    hour = hour;
    minute =
        minute;
  })
  ) else None

-- the calendar has this date
abbrev pub is_date : ℕ → ℕ → ℕ → Bool
is_date year month day = nat_le 1 month && nat_le month 12 && nat_le 1 day && nat_le day
    (days_in_month (pos year) month)

-- the calendar and the clock have this time
abbrev pub is_civil : Parts → Bool
is_civil p = is_date p.year p.month p.day && (nat_le p.hour 23 && nat_le p.minute 59)

-- the minutes from 1970-01-01T00:00 to a time
abbrev pub minutes_of : Parts → ℤ
minutes_of p = days_from_civil (pos p.year) p.month p.day *ℤ pos 1_440 +ℤ pos
    (p.hour * 60 + p.minute)

-- the parts of a date with a minute of its day
abbrev pub parts_at : ℕ → ℕ → ℕ → ℕ → Parts
parts_at year month day of_day = record
    { year = year; month = month; day = day; hour = of_day / 60; minute = of_day % 60 }

-- what a time comes to
abbrev pub parts_minute : Parts → Result ℤ TimeFault
parts_minute p =
    if is_civil p then (if nat_le 2_000 p.year && nat_le p.year 2_099 then Ok (minutes_of p) else
    Err YearRange)
    else Err NoSuchTime

-- what a text comes to
abbrev pub option_minute : Option Parts → Result ℤ TimeFault
option_minute None = Err BadTimeText
option_minute (Some p) = parts_minute p

abbrev pub text_minute : List ℕ → Result ℤ TimeFault
text_minute text = option_minute (form_of text)

-- the text is that of this minute
abbrev pub IsTextOf : ℤ → List ℕ → Type 0
IsTextOf minute text = (p : Parts) × (form_of text ≡ Some p) × (is_civil p ≡ true)
    × (minutes_of p ≡ minute)
