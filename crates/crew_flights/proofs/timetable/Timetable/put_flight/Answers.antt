use Rattle.std.proofs.Common.{◌∙◌, ap, sym, subst}
use Rattle.crew_flights.specs.Timetable.{Timetable, IsSound}
use Rattle.crew_flights.specs.Edits.{with_flight}
use Rattle.crew_flights.proofs.Kept.{flights_put}
use Rattle.crew_flights.proofs.timetable.Timetable.put_flight.Goals as goal

pub returns-clause-ok : goal.returns-clause-ok
returns-clause-ok c =
    flights_put c.self.inside.flights c.insert.new.self c.self.inside.bases c.self.inside.turns c.self.inside.follow_ons c.args.id c.args.flight c.self.invariant.flights_ordered c.in_ok-insert.ensures.ordered c.in_ok-insert.ensures.updates.0
    ∙ ap (λ (t : Timetable). with_flight t c.args.id c.args.flight) c.self.view_is

pub invariant_of-self-2 : goal.invariant_of-self-2
invariant_of-self-2 c = record {
  flights_ordered = c.in_ok-insert.ensures.ordered;
  bases_ordered = c.self.invariant.bases_ordered;
  turns_ordered = c.self.invariant.turns_ordered;
  sound = subst IsSound (sym (returns-clause-ok c)) c.requires;
}
