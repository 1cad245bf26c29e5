use Rattle.std.proofs.Common.{◌∙◌, ap, sym}
use Rattle.std.specs.FinMap as map
use Rattle.std.specs.Prelude.{map as list_map}
use Rattle.std.specs.Ordering.{nat_cmp}
use Rattle.crew_flights.specs.Timetable.{Timetable}
use Rattle.crew_flights.proofs.Maps.{entries_seen}
use Rattle.crew_flights.proofs.timetable.Timetable.flights.Goals as goal

pub returns-clause-held : goal.returns-clause-held
returns-clause-held c = c.values.ensures.rest ∙ ap (λ es. list_map (λ e. e.1) es) (sym (entries_seen nat_cmp _ c.self.invariant.flights_ordered)) ∙ ap (λ (t : Timetable). map.values t.flights) c.self.view_is
