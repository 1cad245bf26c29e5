-- The turns between a flight and its next legs.
use Rattle.std.specs.Prelude.{◌==◌, ◌-ℤ◌, ℕ, ℤ, pos, int_le, Bool, List, [], ◌∷◌, None, Option, Some, cond, filter, if◌then◌else◌, length}
use Rattle.std.specs.FinMap as map
use Rattle.std.specs.Option.{unwrap_or}
use Rattle.std.specs.Ordering.{eq_by_cmp, nat_cmp}
use Rattle.crew_flights.specs.Timetable.{Turns}
use Rattle.crew_flights.specs.declared.flight.Flight.{Flight}
use Rattle.crew_rules.specs.declared.settings.Settings.{Settings}

-- the turns between a flight and its next legs, as entries
abbrev pub turns_from : Turns → ℕ → List ((ℕ × ℕ) × ℕ)
turns_from turns before = filter (λ e. eq_by_cmp nat_cmp e.0.0 before) (map.entries turns)

-- the minutes of the first of some turns whose later flight is this
abbrev pub minutes_to : ℕ → List ((ℕ × ℕ) × ℕ) → Option ℕ
minutes_to after [] = None
minutes_to after (e ∷ es) = cond (eq_by_cmp nat_cmp e.0.1 after) (Some e.1) (minutes_to after es)

-- no flight follows after fewer minutes than these, where an earlier one has these turns
abbrev pub least_gap : Settings → List ((ℕ × ℕ) × ℕ) → ℕ
least_gap s own = if length own == 0 then s.connect else 0

-- a flight departs no sooner after another than the turns of that one let it
abbrev pub is_late_enough : Settings → List ((ℕ × ℕ) × ℕ) → Flight → Flight → Bool
is_late_enough s own before next = int_le (pos (unwrap_or (minutes_to next.id own) s.connect))
    (next.dep -ℤ before.arr)
