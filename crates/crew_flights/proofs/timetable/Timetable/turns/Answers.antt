use Rattle.std.proofs.Common.{◌∙◌, ap, sym}
use Rattle.std.specs.FinMap as map
use Rattle.crew_flights.specs.Codes.{pair_cmp}
use Rattle.crew_flights.specs.Timetable.{Timetable}
use Rattle.crew_flights.proofs.Maps.{entries_seen}
use Rattle.crew_flights.proofs.timetable.Timetable.turns.Goals as goal

pub returns-clause-held : goal.returns-clause-held
returns-clause-held c = c.iter.ensures.rest ∙ sym (entries_seen pair_cmp _ c.self.invariant.turns_ordered) ∙ ap (λ (t : Timetable). map.entries t.turns) c.self.view_is
