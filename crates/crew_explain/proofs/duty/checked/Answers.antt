use Rattle.std.proofs.Common.{◌∙◌, sym}
use Rattle.crew_explain.proofs.Told.{connected-of}
use Rattle.crew_explain.proofs.duty.checked.Goals as goal

pub duty_from-requires-clause-connected : goal.duty_from-requires-clause-connected
duty_from-requires-clause-connected c =
    let turns = c.args.timetable.now.turns in
    (turns, connected-of c.args.settings.now turns c.args.duty c.in-Some.first.now c.in-Some.others.now (sym c.duty_breach.ensures ∙ c.in-None.is))
