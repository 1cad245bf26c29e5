use Rattle.std.proofs.Common.{◌∙◌, ap, sym}
use Rattle.std.specs.FinMap as map
use Rattle.crew_flights.specs.Timetable.{Turns}
use Rattle.crew_duty.proofs.TurnRange.{entries-held}
use Rattle.crew_duty.proofs.turns.HeldTurns.entries.Goals as goal

pub returns : goal.returns
returns c = c.deref.ensures.value ∙ sym (entries-held c.self.inside.all.items c.self.invariant) ∙ ap (λ (t : Turns). map.entries t) c.self.view_is
