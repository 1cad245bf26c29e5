use Rattle.crew_history.proofs.Histories.{no_more_antisym, is_no_more_decides}
use Rattle.crew_history.proofs.laws.histories_are_ordered.Goals as goal

pub returns-clause-antisymmetric : goal.returns-clause-antisymmetric
returns-clause-antisymmetric c = no_more_antisym

pub returns-clause-tested : goal.returns-clause-tested
returns-clause-tested c = is_no_more_decides
