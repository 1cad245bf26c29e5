use Rattle.std.proofs.Common.{◌∙◌, ◌∷◌, []}
use Rattle.crew_explain.specs.Machinery.Firsts.{earliest}
use Rattle.crew_explain.specs.Rules.{connections, duty_limits}
use Rattle.crew_explain.proofs.Asking.{of-two}
use Rattle.crew_explain.proofs.duty.duty_breach.Goals as goal

pub returns : goal.returns
returns c =
    c.earliest.ensures ∙ (λ i. earliest (c.connections_breach.ensures i ∷ c.limits_breach.ensures i ∷ []))
    ∙ of-two (connections c.args.settings.now c.args.timetable.now.turns c.args.duty 2 c.args.first.now c.args.others.now) (duty_limits c.args.settings.now c.args.duty c.args.first.now c.args.others.now)
