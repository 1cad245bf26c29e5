-- Legal duties of unaugmented crews: 14 CFR 117.3 (flight duty period, deadhead transportation),
-- 117.11 with Table A and 117.13 with Table B. A duty is a nonempty list of legs; here it stands as
-- its first leg and the list of the others.
use Rattle.std.specs.Prelude.{◌≡◌, ◌≤◌, ℕ, ℤ, pos, ◌+ℤ◌, ◌-ℤ◌, ◌≤ℤ◌, ◌&&◌, int_le, not, Bool, true, false, List, [], ◌∷◌, length, map as list_map, count_by, if◌then◌else◌}
use Rattle.std.specs.FinMap as map
use Rattle.std.specs.Option.{unwrap_or}
use Rattle.std.specs.Ordering.{eq_by_cmp}
use Rattle.crew_flights.specs.Codes.{code_cmp}
use Rattle.crew_flights.specs.Timetable.{Turns}
use Rattle.crew_flights.specs.declared.flight.Flight.{Flight}
use Rattle.crew_rules.specs.Pay.{duty_pay}
use Rattle.crew_rules.specs.Tables.{table_a, table_b}
use Rattle.crew_rules.specs.declared.settings.Settings.{Settings}
use Rattle.crew_resource.specs.Members.{Each, Member}
use Rattle.crew_pairing.specs.Flights.{Flights}
use Rattle.crew_pairing.specs.Legs.{Leg}
use Rattle.crew_pairing.specs.declared.leg.TimedLeg.{TimedLeg}
use Rattle.crew_pairing.specs.declared.duty.Duty.{Duty}

-- a sum over a whole list
abbrev pub total : {X : Type 0} → (X → ℤ) → List X → ℤ
total f [] = pos 0
total f (x ∷ xs) = f x +ℤ total f xs

-- the last leg of a first leg and others
abbrev pub last_of : TimedLeg → List TimedLeg → TimedLeg
last_of first [] = first
last_of first (next ∷ others) = last_of next others

-- the minutes that the crew flies on a leg: from departure to arrival, and none where it rides as
-- passengers
abbrev pub minutes_flown : TimedLeg → ℤ
minutes_flown l = if l.deadhead then pos 0 else l.flight.arr -ℤ l.flight.dep

-- the price of a leg that the crew flies
abbrev pub price_of : TimedLeg → ℤ
price_of l = if l.deadhead then pos 0 else l.flight.price

-- flight segments: the legs that the crew flies (117.3: deadhead transportation is no flight
-- segment)
abbrev pub segments : List TimedLeg → ℕ
segments legs = count_by (λ l. not l.deadhead) legs

abbrev pub deadheads : List TimedLeg → ℕ
deadheads legs = count_by (λ l. l.deadhead) legs

-- report is `lead` minutes before the first departure, release `debrief` minutes after the last
-- arrival
abbrev pub report : Settings → TimedLeg → ℤ
report s first = first.flight.dep -ℤ pos s.lead

abbrev pub release : Settings → TimedLeg → List TimedLeg → ℤ
release s first others = (last_of first others).flight.arr +ℤ pos s.debrief

-- the flight duty period: from report until the aircraft is parked after the last leg (117.3)
abbrev pub flight_duty_period : Settings → TimedLeg → List TimedLeg → ℤ
flight_duty_period s first others = (last_of first others).flight.arr -ℤ report s first

abbrev pub flight_time : TimedLeg → List TimedLeg → ℤ
flight_time first others = total minutes_flown (first ∷ others)

-- the least minutes on the ground between two flights: their turn, where there is one, and else
-- `connect`
abbrev pub turn_time : Settings → Turns → Flight → Flight → ℕ
turn_time s turns before next = unwrap_or (map.get turns (before.id, next.id)) s.connect

-- the next flight departs where the one before arrived, after a gap from their least minutes on the
-- ground to `sit`. A turn that is more than `sit` forbids it
abbrev pub may_follow : Settings → Turns → Flight → Flight → Bool
may_follow s turns before next =
    eq_by_cmp code_cmp before.to next.from
    && (int_le (pos (turn_time s turns before next)) (next.dep -ℤ before.arr)
    && int_le (next.dep -ℤ before.arr) (pos s.sit))

-- of each two neighbours the second may follow the first, flown or ridden
abbrev pub AllConnect : Settings → Turns → TimedLeg → List TimedLeg → Type 0
AllConnect s turns first [] = Unit {0}
AllConnect s turns first (next ∷ others) = (may_follow s turns first.flight next.flight ≡ true)
    × AllConnect s turns next others

-- a legal duty over these flights
pub record IsLegal (s : Settings) (flights : Flights) (first : TimedLeg)
    (others : List TimedLeg) : Type 0 where
  -- each leg is a flight of the timetable
  pub known : Each (λ l. Member flights.list l.flight) (first ∷ others)
  pub legs : length (first ∷ others) ≤ 8
  pub connected : AllConnect s flights.turns first others
  -- at most so many legs are deadheaded, the last one never
  pub deadheaded : deadheads (first ∷ others) ≤ s.deadheads
  pub flown_last : (last_of first others).deadhead ≡ false
  -- 117.11, Table A, by the clock at report
  pub table_a : flight_time first others ≤ℤ pos (table_a first.flight.report_clock)
  -- 117.13, Table B, by the clock at report and the number of flight segments
  pub table_b : flight_duty_period s first others ≤ℤ pos
      (table_b first.flight.report_clock (segments (first ∷ others)))

abbrev pub leg_of : TimedLeg → Leg
leg_of l = record { flight = l.flight.id; deadhead = l.deadhead }

-- the facts of a duty, as functions of its legs
abbrev pub duty_of : Settings → TimedLeg → List TimedLeg → Duty
duty_of s first others = record {
  key = list_map leg_of (first ∷ others);
  from = first.flight.from;
  to = (last_of first others).flight.to;
  report = report s first;
  release = release s first others;
  fdp = flight_duty_period s first others;
  fly = flight_time first others;
  pay = duty_pay s (release s first others -ℤ report s first) (flight_time first others);
  price = total price_of (first ∷ others);
}
