use Rattle.std.proofs.Common.{◌∙◌, ap, sym, subst}
use Rattle.crew_flights.specs.Timetable.{Timetable, IsSound}
use Rattle.crew_flights.specs.Edits.{without_flight}
use Rattle.crew_flights.proofs.Kept.{flights_removed}
use Rattle.crew_flights.proofs.timetable.Timetable.remove_flight.Goals as goal

pub returns : goal.returns
returns c =
    flights_removed c.self.inside.flights c.remove.new.self c.self.inside.bases c.self.inside.turns c.drop_turns.new.turns c.self.inside.follow_ons c.remove-2.new.self c.args.id c.self.invariant.flights_ordered c.remove.ensures.ordered c.remove.ensures.updates.0 c.self.invariant.turns_ordered c.drop_turns.ensures.left c.remove-2.ensures
    ∙ ap (λ (t : Timetable). without_flight t c.args.id) c.self.view_is

pub invariant_of-self : goal.invariant_of-self
invariant_of-self c = record {
  flights_ordered = c.remove.ensures.ordered;
  bases_ordered = c.self.invariant.bases_ordered;
  turns_ordered = c.drop_turns.ensures.ordered;
  sound = subst IsSound (sym (returns c)) c.requires;
}
