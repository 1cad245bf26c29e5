use Rattle.std.proofs.Common.{◌∙◌, pos, subst}
use Rattle.crew_rules.specs.declared.settings.Settings.{Settings}
use Rattle.crew_step.specs.Jobs.{IsValueAt, Job}
use Rattle.session_tests.proofs.calls.steps.alone.Goals as goal

pub returns : goal.returns
returns c = λ v w m.
    let same = c.in_ok-done.ensures.job ∙ c.new-job.ensures in
    subst (λ (s : Settings). IsValueAt s (pos 0) c.args.duty v w) c.standard.ensures.value
    (subst (λ (j : Job). IsValueAt j.settings j.base_price j.duty v w) same (c.in_ok-done.ensures.done.values v w m))
