use Rattle.std.proofs.Common.{◌∙◌, ap, sym}
use Rattle.std.specs.FinMap as map
use Rattle.std.specs.Ordering.{nat_cmp}
use Rattle.crew_flights.specs.Timetable.{Timetable}
use Rattle.crew_flights.proofs.Maps.{get_seen}
use Rattle.crew_flights.proofs.timetable.Timetable.flight.Goals as goal

pub returns-clause-held : goal.returns-clause-held
returns-clause-held c = c.copied.ensures ∙ c.get.ensures.value ∙ sym (get_seen nat_cmp _ _ c.self.invariant.flights_ordered) ∙ ap (λ (t : Timetable). map.get t.flights c.args.id) c.self.view_is
