use Rattle.std.proofs.Common.{◌∙◌, ap, sym, subst, ℤ, cond, Some}
use Rattle.std.specs.BTreeMap.{get, is_at}
use Rattle.std.specs.Int.{w64}
use Rattle.std.proofs.lemmas.Int.{to_z-of_z}
use Rattle.crew_flights.specs.Codes.{code_cmp}
use Rattle.crew_flights.specs.Timetable.{Timetable, IsSound}
use Rattle.crew_flights.specs.Edits.{with_base}
use Rattle.crew_flights.proofs.Kept.{bases_put}
use Rattle.crew_flights.proofs.timetable.Timetable.put_base.Goals as goal

pub returns-clause-ok : goal.returns-clause-ok
returns-clause-ok c =
    bases_put c.self.inside.flights c.self.inside.bases c.insert.new.self c.self.inside.turns c.self.inside.follow_ons c.args.code c.args.price c.self.invariant.bases_ordered c.in_ok-insert.ensures.ordered (λ q. c.in_ok-insert.ensures.updates.0 q ∙ ap (λ (z : ℤ). cond (is_at (code_cmp c.args.code) q) (Some z) (get code_cmp c.self.inside.bases q)) (to_z-of_z w64 c.args.price c.ranges.price))
    ∙ ap (λ (t : Timetable). with_base t c.args.code c.args.price) c.self.view_is

pub invariant_of-self-2 : goal.invariant_of-self-2
invariant_of-self-2 c = record {
  flights_ordered = c.self.invariant.flights_ordered;
  bases_ordered = c.in_ok-insert.ensures.ordered;
  turns_ordered = c.self.invariant.turns_ordered;
  sound = subst IsSound (sym (returns-clause-ok c)) c.requires;
}
