use Rattle.std.proofs.Common.{◌∙◌, ap, sym, subst}
use Rattle.crew_flights.specs.Timetable.{Timetable, IsSound}
use Rattle.crew_flights.specs.Edits.{without_turn}
use Rattle.crew_flights.proofs.Kept.{turns_removed}
use Rattle.crew_flights.proofs.timetable.Timetable.remove_turn.Goals as goal

pub returns : goal.returns
returns c =
    turns_removed c.self.inside.flights c.self.inside.bases c.self.inside.turns c.remove.new.self c.self.inside.follow_ons c.args.before c.args.after c.self.invariant.turns_ordered c.remove.ensures.ordered c.remove.ensures.updates.0
    ∙ ap (λ (t : Timetable). without_turn t c.args.before c.args.after) c.self.view_is

pub invariant_of-self : goal.invariant_of-self
invariant_of-self c = record {
  flights_ordered = c.self.invariant.flights_ordered;
  bases_ordered = c.self.invariant.bases_ordered;
  turns_ordered = c.remove.ensures.ordered;
  sound = subst IsSound (sym (returns c)) c.requires;
}
