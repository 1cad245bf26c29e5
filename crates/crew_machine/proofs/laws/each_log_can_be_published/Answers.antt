use Rattle.crew_machine.proofs.Published.{published}
use Rattle.crew_machine.proofs.laws.each_log_can_be_published.Goals as goal

pub returns : goal.returns
returns c = λ s entries checked few. published s checked entries few
