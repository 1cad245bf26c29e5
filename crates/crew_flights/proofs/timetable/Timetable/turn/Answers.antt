use Rattle.std.proofs.Common.{◌∙◌, ap, sym}
use Rattle.std.specs.FinMap as map
use Rattle.crew_flights.specs.Codes.{pair_cmp}
use Rattle.crew_flights.specs.Timetable.{Timetable}
use Rattle.crew_flights.proofs.Maps.{get_seen}
use Rattle.crew_flights.proofs.timetable.Timetable.turn.Goals as goal

pub returns-clause-held : goal.returns-clause-held
returns-clause-held c = c.copied.ensures ∙ c.get.ensures.value ∙ sym (get_seen pair_cmp _ _ c.self.invariant.turns_ordered) ∙ ap (λ (t : Timetable). map.get t.turns (c.args.before, c.args.after)) c.self.view_is
