use Rattle.std.proofs.Common.{◌∙◌, ap, sym}
use Rattle.std.specs.FinMap as map
use Rattle.crew_flights.specs.Codes.{code_cmp}
use Rattle.crew_flights.specs.Timetable.{Timetable}
use Rattle.crew_flights.proofs.Maps.{get_seen}
use Rattle.crew_flights.proofs.timetable.Timetable.base_price.Goals as goal

pub returns-clause-held : goal.returns-clause-held
returns-clause-held c = c.copied.ensures ∙ c.get.ensures.value ∙ sym (get_seen code_cmp _ _ c.self.invariant.bases_ordered) ∙ ap (λ (t : Timetable). map.get t.bases c.args.code) c.self.view_is
