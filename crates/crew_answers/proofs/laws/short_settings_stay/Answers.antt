use Rattle.crew_answers.proofs.ShortPartials.{not-long, same-settings}
use Rattle.crew_answers.proofs.laws.short_settings_stay.Goals as goal

pub returns : goal.returns
returns c = λ s short. same-settings s (not-long s short)
