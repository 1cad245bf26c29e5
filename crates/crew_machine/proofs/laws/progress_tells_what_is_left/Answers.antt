use Rattle.crew_machine.proofs.Counts.{all-counted, counted-all, counts-fit}
use Rattle.crew_machine.proofs.laws.progress_tells_what_is_left.Goals as goal

pub returns-clause-within : goal.returns-clause-within
returns-clause-within c = λ cells. counts-fit cells

pub returns-clause-whole : goal.returns-clause-whole
returns-clause-whole c = λ cells. (all-counted cells, counted-all cells)
