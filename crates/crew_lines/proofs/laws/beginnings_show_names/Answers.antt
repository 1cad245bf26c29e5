use Rattle.crew_lines.proofs.BeginningFacts.{names-shown}
use Rattle.crew_lines.proofs.laws.beginnings_show_names.Goals as goal

pub returns : goal.returns
returns c = names-shown
