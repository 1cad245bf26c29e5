-- Legal duties, each after a rest, come in order.
use Rattle.std.proofs.Common.{◌≡◌, ℕ, true, List, [], ◌∷◌, ◌&&◌, ℤ, pos, ◌+ℤ◌, sym, subst, arith}
use Rattle.std.specs.Prelude.{◌-ℤ◌, ◌≤ℤ◌, ◌<ℤ◌, int_le}
use Rattle.std.specs.Ordering.{eq_by_cmp}
use Rattle.std.proofs.lemmas.Bool.{and_parts}
use Rattle.std.proofs.lemmas.Int.{ints}
use Rattle.crew_pairing.specs.crew_flights.Codes.{code_cmp}
use Rattle.crew_pairing.specs.crew_flights.Timetable.{IsSound, Timetable, Turns}
use Rattle.crew_pairing.specs.crew_rules.declared.settings.Settings.{Settings}
use Rattle.crew_pairing.specs.Duties.{flights_of}
use Rattle.crew_pairing.specs.Legality.{AllConnect, IsLegal, duty_of, last_of}
use Rattle.crew_pairing.specs.Pairings.{AllRested, IsDuty, may_stand_after, rest}
use Rattle.crew_pairing.specs.declared.duty.Duty.{Duty}
use Rattle.crew_pairing.specs.declared.leg.TimedLeg.{TimedLeg}
use Rattle.crew_pairing.proofs.Legal.{known-sound}
use Rattle.crew_pairing.proofs.Times.{AllSound, ends-later, no-earlier}
use Rattle.crew_pairing.proofs.Timetables.{flights-of-timetable}
use Rattle.crew_resource.specs.Members.{Each}
use Rattle.crew_history.specs.Limits.{AreInOrder, IsTimed}

-- the last leg arrives after the first departs
arrives_after : (s : Settings) (turns : Turns) (first : TimedLeg) (others : List TimedLeg) → AllSound (first ∷ others) → AllConnect s turns first others
    → first.flight.dep <ℤ (last_of first others).flight.arr
arrives_after s turns first [] sound linked = omega (arith, ints, sound.0.least_block)
arrives_after s turns first (next ∷ others) sound linked =
    omega (arith, ints, sound.0.least_block, no-earlier s turns first.flight next.flight linked.0, ends-later s turns next others sound.1 linked.1)

-- the numbers of its period
minutes_are : (dep arr : ℤ) (lead debrief : ℕ) → dep <ℤ arr → (pos 0 <ℤ (arr -ℤ (dep -ℤ pos lead))) × (((dep -ℤ pos lead) +ℤ (arr -ℤ (dep -ℤ pos lead))) ≤ℤ (arr +ℤ pos debrief))
minutes_are dep arr lead debrief h = (omega (arith, ints), omega (arith, ints))

timed_of : (s : Settings) (t : Timetable) (first : TimedLeg) (others : List TimedLeg) → IsSound t → IsLegal s (flights_of t) first others → IsTimed (duty_of s first others)
timed_of s t first others sound legal =
    let later = arrives_after s (flights_of t).turns first others (known-sound (flights_of t) (first ∷ others) (flights-of-timetable t sound) legal.known) legal.connected in
    let k = minutes_are first.flight.dep (last_of first others).flight.arr s.lead s.debrief later in
    record { nonempty = k.0; arrives = k.1 }

is_timed : (s : Settings) (t : Timetable) (d : Duty) → IsSound t → IsDuty s (flights_of t) d → IsTimed d
is_timed s t d sound duty = subst IsTimed (sym duty.3) (timed_of s t duty.0 duty.1 sound duty.2)

later_report : (s : Settings) (a b : Duty) → may_stand_after s a b ≡ true → a.release <ℤ b.report
later_report s a b h =
    let f = and_parts (eq_by_cmp code_cmp a.to b.from) (int_le (pos 600) (rest a b) && int_le (rest a b) (pos s.max_rest)) h in
    let g = and_parts (int_le (pos 600) (rest a b)) (int_le (rest a b) (pos s.max_rest)) f.1 in
    ten_hours a.release b.report g.0
  where
    ten_hours : (x y : ℤ) → int_le (pos 600) (y -ℤ x) ≡ true → x <ℤ y
    ten_hours x y h = grind (arith, ints)

pub in_order : (s : Settings) (t : Timetable) (first : Duty) (others : List Duty) → IsSound t → Each (IsDuty s (flights_of t)) (first ∷ others) → AllRested s first others → AreInOrder first others
in_order s t first [] sound duties rested = is_timed s t first sound duties.0
in_order s t first (next ∷ others) sound duties rested = (is_timed s t first sound duties.0, later_report s first next rested.0, in_order s t next others sound duties.1 rested.1)
