-- The legal duties of a timetable as a schedule: which may be first, and which may stand just
-- before which, by their events.
use Rattle.std.specs.Prelude.{ℕ, List}
use Rattle.std.specs.Ordering.{eq_by_cmp}
use Rattle.crew_flights.specs.Codes.{code_cmp}
use Rattle.crew_flights.specs.Timetable.{Timetable}
use Rattle.crew_flights.specs.crew_time.Instant.{IsInstant}
use Rattle.crew_flights.specs.declared.flight.Flight.{Flight}
use Rattle.crew_rules.specs.declared.settings.Settings.{Settings}
use Rattle.crew_resource.specs.Members.{Member}
use Rattle.crew_pairing.specs.Duties.{flights_of}
use Rattle.crew_pairing.specs.Events.{may_wait}
use Rattle.crew_pairing.specs.Keys.{key_cmp}
use Rattle.crew_pairing.specs.Legs.{Leg}
use Rattle.crew_pairing.specs.Pairings.{may_stand_after}
use Rattle.crew_pairing.specs.declared.duty.Duty.{Duty}
use Rattle.crew_pairing.specs.declared.events.Arrival.{Arrival}
use Rattle.crew_pairing.specs.declared.events.Departure.{Departure}
use Rattle.crew_forgetful.specs.Sweeps.{Schedule}
use Rattle.crew_answers.specs.Machinery.Ranks.{rank_of}

abbrev pub schedule_of : Settings → List ℕ → List Duty → Schedule Duty Arrival Departure (List Leg)
schedule_of s base duties = record {
  known = duties;
  key = λ d. d.key;
  cmp = key_cmp;
  may_start = λ d. eq_by_cmp code_cmp d.from base;
  may_follow = may_stand_after s;
  window = may_wait s;
  at_base = λ g. eq_by_cmp code_cmp g.airport base;
  rank = rank_of duties;
}

-- each flight departs at an instant
abbrev pub IsDated : Timetable → Type 0
IsDated t = (flight : Flight) → Member (flights_of t).list flight → IsInstant flight.dep
