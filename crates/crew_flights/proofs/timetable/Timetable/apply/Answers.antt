use Rattle.std.proofs.Common.{◌∙◌, rules, sym}
use Rattle.crew_flights.proofs.Soundness.{changed_sound}
use Rattle.crew_flights.proofs.timetable.Timetable.apply.Goals as goal

pub change-requires-clause-sound : goal.change-requires-clause-sound
change-requires-clause-sound c = changed_sound c.args.self.now c.args.edit.now c.refusal.ensures.sound (sym c.refusal.ensures.first ∙ c.in_default.is)

pub returns-in-Some-clause-ok : goal.returns-in-Some-clause-ok
returns-in-Some-clause-ok c = search rules

pub returns-clause-ok : goal.returns-clause-ok
returns-clause-ok c = search rules
