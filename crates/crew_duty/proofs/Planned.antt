-- What a search works with, from what is held of a timetable.
use Rattle.std.proofs.Common.{◌≡◌, ◌≤◌, ◌∙◌, List, length, subst, sym}
use Rattle.crew_flights.specs.Timetable.{IsSound, Timetable, Turns}
use Rattle.crew_flights.specs.declared.flight.Flight.{Flight}
use Rattle.crew_rules.specs.Settings.{IsChecked}
use Rattle.crew_rules.specs.declared.settings.Settings.{Settings}
use Rattle.crew_pairing.specs.Duties.{flights_of}
use Rattle.crew_pairing.specs.Machinery.Beginnings.{AreFlights}
use Rattle.crew_pairing.proofs.Timetables.{flights-few, flights-of-timetable}
use Rattle.crew_duty.specs.Machinery.Held.{over}
use Rattle.crew_duty.specs.Machinery.Plans.{AreNext, IsPlan}
use Rattle.crew_duty.specs.Machinery.Slots.{IsIndex}
use Rattle.crew_duty.specs.declared.departures.Slot.{Slot}
use Rattle.crew_duty.specs.declared.plan.Next.{Next}

-- the flights and the turns of a timetable
pub both-held : (fs : List Flight) (turns : Turns) (t : Timetable) → fs ≡ (flights_of t).list → turns ≡ t.turns → over fs turns ≡ flights_of t
both-held fs turns t e k = λ i. record { list = e i; turns = k i }

pub held-flights : (fs : List Flight) (turns : Turns) (t : Timetable) → IsSound t → fs ≡ (flights_of t).list → turns ≡ t.turns → AreFlights (over fs turns)
held-flights fs turns t sound e k = subst AreFlights (sym (both-held fs turns t e k)) (flights-of-timetable t sound)

pub held-few : (fs : List Flight) (t : Timetable) → IsSound t → fs ≡ (flights_of t).list → length fs ≤ 5_000
held-few fs t sound e = subst (λ (l : List Flight). length l ≤ 5_000) (sym e) (flights-few t sound)

pub is-plan : (s : Settings) (t : Timetable) (indexed nexted fs : List Flight) (turns : Turns) (slots : List Slot) (next : List Next) → IsChecked s → IsSound t
    → indexed ≡ (flights_of t).list → nexted ≡ (flights_of t).list → fs ≡ (flights_of t).list → turns ≡ t.turns → IsIndex indexed slots → AreNext s (over nexted turns) nexted next → IsPlan s (over fs turns) slots next
is-plan s t indexed nexted fs turns slots next checked sound i n e k index are = record {
  checked = checked;
  are_flights = held-flights fs turns t sound e k;
  few = held-few fs t sound e;
  index = subst (λ (l : List Flight). IsIndex l slots) (i ∙ sym e) index;
  are_next = subst (λ (l : List Flight). AreNext s (over l turns) l next) (n ∙ sym e) are;
}
