use Rattle.crew_answers.proofs.LongNodes.{shown-front}
use Rattle.crew_answers.proofs.laws.fronts_of_values_show_the_fronts.Goals as goal

pub returns : goal.returns
returns c = λ s t base price duties d entries range sound dated are legal. shown-front s t base price range sound dated duties are d legal entries
