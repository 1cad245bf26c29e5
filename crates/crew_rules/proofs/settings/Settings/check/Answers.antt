use Rattle.std.proofs.Common.{◌∙◌, refl, sym, rules}
use Rattle.crew_rules.proofs.Checked.{checked}
use Rattle.crew_rules.proofs.settings.Settings.check.Goals as goal

pub returns-in-None-clause-value : goal.returns-in-None-clause-value
returns-in-None-clause-value c = search rules

pub returns-in-None-clause-checked : goal.returns-in-None-clause-checked
returns-in-None-clause-checked c = (λ _. checked _ (sym c.first_out.ensures.value ∙ c.in-None.is), λ _. refl)

pub returns-in-Some-clause-value : goal.returns-in-Some-clause-value
returns-in-Some-clause-value c = search rules

pub returns-in-Some-clause-checked : goal.returns-in-Some-clause-checked
returns-in-Some-clause-checked c = search rules
