-- The duties over some flights as a tree: below a beginning stand the duties that begin with it. In
-- preorder, with the next legs in order, they stand by key. That this lists exactly the legal
-- duties is a theorem (proofs/Complete.antt).
use Rattle.std.specs.Prelude.{◌≡◌, Ok, Result, ℕ, zero, suc, pos, ◌||◌, nat_lt, int_lt, max, Bool, true, false, List, [], ◌∷◌, ◌++◌, filter, take, drop, if◌then◌else◌}
use Rattle.std.specs.List.{flat_map}
use Rattle.crew_flights.specs.declared.flight.Flight.{Flight}
use Rattle.crew_rules.specs.Tables.{table_a, table_b}
use Rattle.crew_rules.specs.declared.settings.Settings.{Settings}
use Rattle.crew_pairing.specs.declared.leg.TimedLeg.{TimedLeg}
use Rattle.crew_pairing.specs.declared.duty.Duty.{Duty}
use Rattle.crew_pairing.specs.Flights.{Flights}
use Rattle.crew_pairing.specs.Legality.{deadheads, duty_of, flight_duty_period, flight_time, last_of, may_follow, segments}

abbrev pub timed : Bool → Flight → TimedLeg
timed deadhead flight = record { flight = flight; deadhead = deadhead }

-- no duty can begin with these legs: too many deadheads, too much flight time, or more flight duty
-- period than Table B allows to the segments so far
abbrev pub is_hopeless : Settings → TimedLeg → List TimedLeg → Bool
is_hopeless s first others =
    nat_lt s.deadheads (deadheads (first ∷ others))
    || (int_lt (pos (table_a first.flight.report_clock)) (flight_time first others)
    || int_lt (pos (table_b first.flight.report_clock (max (segments (first ∷ others)) 1)))
    (flight_duty_period s first others))

-- the duty of these legs themselves: a deadhead ends none
abbrev pub own : Settings → TimedLeg → List TimedLeg → List Duty
own s first others = if (last_of first others).deadhead then [] else duty_of s first others ∷ []

-- the duties that begin with these legs, with fewer than `room` legs more
unfoldable pub listing : ℕ → Settings → Flights → TimedLeg → List TimedLeg → List Duty
listing zero s flights first others = []
listing (suc room) s flights first others =
    if is_hopeless s first others then []
    else own s first others ++ flat_map
    (λ next. listing room s flights first (others ++ timed false next ∷ [])
    ++ listing room s flights first (others ++ timed true next ∷ []))
    (filter (may_follow s flights.turns (last_of first others).flight) flights.list)

-- the duties that go on with a flight, flown and then deadheaded
abbrev pub below : ℕ → Settings → Flights → TimedLeg → List TimedLeg → Flight → List Duty
below room s flights first others next = listing room s flights first
    (others ++ timed false next ∷ [])
    ++ listing room s flights first (others ++ timed true next ∷ [])

-- the duties that begin with a flight, flown and then deadheaded
abbrev pub from_flight : Settings → Flights → Flight → List Duty
from_flight s flights first = listing 8 s flights (timed false first) []
    ++ listing 8 s flights (timed true first) []

-- all duties
abbrev pub all_duties : Settings → Flights → List Duty
all_duties s flights = flat_map (from_flight s flights) flights.list

-- the duties that begin with the flight at a place, and none where there is no flight
abbrev pub from_place : Settings → Flights → ℕ → List Duty
from_place s flights place = flat_map (from_flight s flights) (take 1 (drop place flights.list))

-- a list that was made before, and this of it
abbrev pub IsOkAnd : {X E : Type 0} → Result X E → (X → Type 0) → Type 0
IsOkAnd {X} r P = (x : X) × (r ≡ Ok x) × P x
