-- The rules of a pairing as one list, in order, each with what it asks and what is told where that
-- doesn't hold: 14 CFR 117.3 (deadhead transportation), 117.11 with Table A, 117.13 with Table B,
-- 117.23(b)(1) and (c), 117.25(b) and (e). The order is that of the definitions of a legal duty and of
-- a partial pairing: the base; duty by duty its legs, then its limits; then all duties together.
use Rattle.std.specs.Prelude.{◌+◌, ◌-ℤ◌, ℕ, ℤ, pos, int_le, nat_le, not, Bool, false, cond, List, [], ◌∷◌, ◌++◌, Option, Some, None, Result, Ok, Err, length}
use Rattle.std.specs.Ordering.{eq_by_cmp}
use Rattle.std.specs.FinMap as map
use Rattle.crew_flights.specs.Codes.{code_cmp}
use Rattle.crew_flights.specs.Places.{placed_flight}
use Rattle.crew_flights.specs.Timetable.{Timetable, Turns}
use Rattle.crew_flights.specs.declared.flight.Flight.{Flight}
use Rattle.crew_rules.specs.Tables.{table_a, table_b}
use Rattle.crew_rules.specs.declared.settings.Settings.{Settings}
use Rattle.crew_pairing.specs.Legs.{Leg}
use Rattle.crew_pairing.specs.Legality.{deadheads, duty_of, flight_duty_period, flight_time, last_of, segments, total}
use Rattle.crew_pairing.specs.Pairings.{is_pairing, minutes_away, rest}
use Rattle.crew_pairing.specs.declared.leg.TimedLeg.{TimedLeg}
use Rattle.crew_pairing.specs.declared.duty.Duty.{Duty}
use Rattle.crew_history.specs.Limits.{arrival, fdp_between}
use Rattle.crew_explain.specs.declared.breach.Breach.{Breach}
use Rattle.crew_explain.specs.declared.breach.Rule.{Rule}
use Rattle.crew_explain.specs.declared.breach.Rule.TheVariants as The
use Rattle.crew_explain.specs.declared.explained.Limits.{Limits}

-- ---- a rule: whether it holds, and what is told where it doesn't

abbrev pub Asked : Type 0
Asked = Bool × Breach

-- a rule without numbers, at a duty and a leg from 1; 0 where it is of none
abbrev pub told : Rule → ℕ → ℕ → Breach
told rule duty leg = record { rule = rule; duty = duty; leg = leg; found = pos 0; limit = pos 0 }

abbrev pub same : Rule → ℕ → ℕ → List ℕ → List ℕ → Asked
same rule duty leg a b = (eq_by_cmp code_cmp a b, told rule duty leg)

-- a number is at most its limit, or at least
abbrev pub at_most : Rule → ℕ → ℕ → ℤ → ℤ → Asked
at_most rule duty leg found limit = (
  int_le found limit,
  record { rule = rule; duty = duty; leg = leg; found = found; limit = limit },
)

abbrev pub at_least : Rule → ℕ → ℕ → ℤ → ℤ → Asked
at_least rule duty leg found limit = (
  int_le limit found,
  record { rule = rule; duty = duty; leg = leg; found = found; limit = limit },
)

-- the first of these rules that doesn't hold
abbrev pub first_of : List Asked → Option Breach
first_of [] = None
first_of (r ∷ rules) = cond r.0 (first_of rules) (Some r.1)

-- one step after another, up to the first that breaks a rule
infixl 10 ◌>>=◌
abbrev pub ◌>>=◌ : {A B : Type 0} → Result A Breach → (A → Result B Breach) → Result B Breach
Ok x >>= f = f x
Err e >>= f = Err e

-- a value, where nothing is broken
abbrev pub unless : {A : Type 0} → Option Breach → A → Result A Breach
unless None x = Ok x
unless (Some breach) x = Err breach

-- ---- a duty

-- a leg's flight as pairings see it, where it is held
abbrev pub held : ℕ → ℕ → Option Flight → Result Flight Breach
held duty leg None = Err (told The.Flight duty leg)
held duty leg (Some flight) = Ok flight

abbrev pub timed_leg : Timetable → ℕ → ℕ → Leg → Result TimedLeg Breach
timed_leg t duty leg l = held duty leg (placed_flight t l.flight)
    >>= (λ f. Ok (record { flight = f; deadhead = l.deadhead }))

-- legs with their flights, after those that have them already
abbrev pub timed_after : Timetable → ℕ → List TimedLeg → List Leg → Result (List TimedLeg) Breach
timed_after t duty legs [] = Ok legs
timed_after t duty legs (l ∷ ls) = timed_leg t duty (length legs + 1) l
    >>= (λ leg. timed_after t duty (legs ++ leg ∷ []) ls)

-- the least minutes between two legs, with the rule that asks for them: their turn, where there is
-- one, and else `connect`
abbrev pub least_gap : Settings → Option ℕ → Rule × ℤ
least_gap s None = (The.Connect, pos s.connect)
least_gap s (Some minutes) = (The.Turn, pos minutes)

-- a leg and the next: the airport, and the minutes between them. Where their turn is more than
-- `sit`, no minutes keep both rules
abbrev pub connection : Settings → Turns → ℕ → ℕ → Flight → Flight → List Asked
connection s turns duty leg before next =
    let least = least_gap s (map.get turns (before.id, next.id)) in
    same The.Airport duty leg before.to next.from
    ∷ at_least least.0 duty leg (next.dep -ℤ before.arr) least.1
    ∷ at_most The.Sit duty leg (next.dep -ℤ before.arr) (pos s.sit)
    ∷ []

abbrev pub connections : Settings → Turns → ℕ → ℕ → TimedLeg → List TimedLeg → List Asked
connections s turns duty leg first [] = []
connections s turns duty leg first (next ∷ others) =
    connection s turns duty leg first.flight next.flight
    ++ connections s turns duty (leg + 1) next others

-- the deadheads, Table A and Table B
abbrev pub duty_limits : Settings → ℕ → TimedLeg → List TimedLeg → List Asked
duty_limits s duty first others =
    at_most The.Deadheads duty 0 (pos (deadheads (first ∷ others))) (pos s.deadheads)
    ∷ (not (last_of first others).deadhead, told The.LastLeg duty (length others + 1))
    ∷ at_most The.FlightTime duty 0 (flight_time first others)
    (pos (table_a first.flight.report_clock))
    ∷ at_most The.FlightDuty duty 0 (flight_duty_period s first others)
    (pos (table_b first.flight.report_clock (segments (first ∷ others))))
    ∷ []

abbrev pub duty_rules : Settings → Turns → ℕ → TimedLeg → List TimedLeg → List Asked
duty_rules s turns duty first others =
    connections s turns duty 2 first others ++ duty_limits s duty first others

-- what a duty of these legs may have
abbrev pub limits_of : TimedLeg → List TimedLeg → Limits
limits_of first others = record {
  clock = first.flight.report_clock;
  fly = table_a first.flight.report_clock;
  fdp = table_b first.flight.report_clock (segments (first ∷ others));
}

-- the duty of these legs, where it breaks no rule
abbrev pub checked : Settings → Turns → ℕ → List TimedLeg → Result (Duty × Limits) Breach
checked s turns duty [] = Err (told The.LastLeg duty 0)
checked s turns duty (first ∷ others) = unless (first_of (duty_rules s turns duty first others))
    (duty_of s first others, limits_of first others)

abbrev pub read_duty : Settings → Timetable → ℕ → List Leg → Result (Duty × Limits) Breach
read_duty s t duty key =
    cond (nat_le (length key) 8) (timed_after t duty [] key >>= checked s t.turns duty)
    (Err (record { rule = The.Legs; duty = duty; leg = 0; found = pos (length key); limit = pos 8 }))

-- the duties of a walk with their limits, after those that are read already
abbrev pub read_after : Settings → Timetable → List Duty → List Limits → List (List Leg)
    → Result (List Duty × List Limits) Breach
read_after s t duties limits [] = Ok (duties, limits)
read_after s t duties limits (key ∷ keys) = read_duty s t (length duties + 1) key
    >>= (λ d. read_after s t (duties ++ d.0 ∷ []) (limits ++ d.1 ∷ []) keys)

abbrev pub read_walk : Settings → Timetable → List (List Leg) → Result (List Duty × List Limits) Breach
read_walk s t walk = read_after s t [] [] walk

-- ---- a pairing

-- a duty and the next: the airport, and the rest between them (117.25(e))
abbrev pub between : Settings → ℕ → Duty → Duty → List Asked
between s duty before next =
    same The.RestAirport duty 0 before.to next.from
    ∷ at_least The.Rest duty 0 (rest before next) (pos 600)
    ∷ at_most The.MaxRest duty 0 (rest before next) (pos s.max_rest)
    ∷ []

abbrev pub rests : Settings → ℕ → Duty → List Duty → List Asked
rests s duty first [] = []
rests s duty first (next ∷ others) = between s duty first next ++ rests s (duty + 1) next others

-- the caps on totals (117.23(b)(1) and (c)(2))
abbrev pub totals : Settings → List Duty → List Asked
totals s duties =
    at_most The.FdpTotal 0 0 (total (λ d. d.fdp) duties) (pos s.fdp_total)
    ∷ at_most The.FlyCap 0 0 (total (λ d. d.fly) duties) (pos s.fly_cap)
    ∷ at_most The.MaxDuties 0 0 (pos (length duties)) (pos s.max_duties)
    ∷ at_most The.AwayCap 0 0 (minutes_away duties) (pos s.away_cap)
    ∷ []

-- flight duty minutes in the 168 hours that end with a duty's last arrival
abbrev pub window_to : List Duty → Duty → ℤ
window_to duties d = total (fdp_between (arrival d -ℤ pos 10_080) (arrival d)) duties

-- 117.23(c)(1), of each window that ends with a last arrival: none has more than these
abbrev pub windows : Settings → List Duty → ℕ → List Duty → List Asked
windows s duties duty [] = []
windows s duties duty (d ∷ ds) = at_most The.Window duty 0 (window_to duties d) (pos s.fdp_cap)
    ∷ windows s duties (duty + 1) ds

-- the end of the last rest of 1,800 minutes or more, at a next report
abbrev pub rest_end : ℤ → Duty → Duty → ℤ
rest_end ended before next = cond (int_le (pos 1_800) (rest before next)) next.report ended

-- 117.25(b), of each report but the first: 8,280 minutes at most after the end of the last rest of
-- 1,800 minutes or more, or after the first report, where this ended so
abbrev pub free_times : ℕ → ℤ → Duty → List Duty → List Asked
free_times duty ended last [] = []
free_times duty ended last (next ∷ others) =
    at_most The.FreeTime duty 0 (next.report -ℤ rest_end ended last next) (pos 8_280)
    ∷ free_times (duty + 1) (rest_end ended last next) next others

abbrev pub returning : List ℕ → Duty → List Duty → Asked
returning base first others =
    (is_pairing base first others, told The.Returns (length others + 1) 0)

abbrev pub walk_rules : Settings → List ℕ → List Duty → List Asked
walk_rules s base [] = (false, told The.Leaves 1 0) ∷ []
walk_rules s base (first ∷ others) =
    same The.Leaves 1 0 first.from base
    ∷ (rests s 2 first others ++ (totals s (first ∷ others)
    ++ (windows s (first ∷ others) 1 (first ∷ others)
    ++ (free_times 2 first.report first others ++ (returning base first others ∷ [])))))

-- what a walk breaks first, once its duties are read
abbrev pub broken_of : Settings → List ℕ → Result (List Duty × List Limits) Breach → Option Breach
broken_of s base (Err breach) = Some breach
broken_of s base (Ok read) = first_of (walk_rules s base read.0)

-- where the base is held with a price
abbrev pub based : Option ℤ → Option Breach → Option Breach
based None broken = Some (told The.Base 0 0)
based (Some price) broken = broken

-- the first rule that a walk breaks as a pairing of a base; none where it is legal
abbrev pub breach_of : Settings → Timetable → List ℕ → List (List Leg) → Option Breach
breach_of s t base walk =
    based (map.get t.bases base) (broken_of s base (read_walk s t walk))
