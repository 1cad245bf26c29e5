use Rattle.std.proofs.Common.{◌∙◌, ap, sym, subst}
use Rattle.crew_flights.specs.FollowOns.{FollowOns}
use Rattle.crew_flights.specs.Timetable.{Timetable, IsSound, timetable_of}
use Rattle.crew_flights.specs.Edits.{with_follow}
use Rattle.crew_flights.proofs.timetable.Timetable.put_follow.Goals as goal

pub returns-clause-ok : goal.returns-clause-ok
returns-clause-ok c =
    ap (λ (f : FollowOns). timetable_of c.self.inside.flights c.self.inside.bases c.self.inside.turns f) c.in_ok-link.ensures.ok
    ∙ ap (λ (t : Timetable). with_follow t c.args.before c.args.after) c.self.view_is

pub invariant_of-self-2 : goal.invariant_of-self-2
invariant_of-self-2 c = record {
  flights_ordered = c.self.invariant.flights_ordered;
  bases_ordered = c.self.invariant.bases_ordered;
  turns_ordered = c.self.invariant.turns_ordered;
  sound = subst IsSound (sym (returns-clause-ok c)) c.requires.sound;
}
