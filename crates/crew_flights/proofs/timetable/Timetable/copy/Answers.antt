use Rattle.std.proofs.Common.{◌∙◌, sym, subst}
use Rattle.crew_flights.specs.Timetable.{IsSound}
use Rattle.crew_flights.proofs.Kept.{timetable_again}
use Rattle.crew_flights.proofs.timetable.Timetable.copy.Goals as goal

pub returns : goal.returns
returns c =
    timetable_again c.self.inside.flights c.in_ok-entries_again.field-0 c.self.inside.bases c.in_ok-entries_again-2.field-0 c.self.inside.turns c.in_ok-entries_again-3.field-0 c.self.inside.follow_ons c.in_ok-copy.field-0 c.self.invariant.flights_ordered c.self.invariant.bases_ordered c.self.invariant.turns_ordered c.in_ok-entries_again.ensures c.in_ok-entries_again-2.ensures c.in_ok-entries_again-3.ensures c.in_ok-copy.ensures
    ∙ c.self.view_is

pub invariant_of-result : goal.invariant_of-result
invariant_of-result c = record {
  flights_ordered = c.in_ok-entries_again.ensures.1;
  bases_ordered = c.in_ok-entries_again-2.ensures.1;
  turns_ordered = c.in_ok-entries_again-3.ensures.1;
  sound = subst IsSound (c.self.view_is ∙ sym (returns c)) c.self.invariant.sound;
}
