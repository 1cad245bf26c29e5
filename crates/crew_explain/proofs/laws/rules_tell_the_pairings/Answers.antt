use Rattle.crew_explain.proofs.Legal.{legal-told, told-legal}
use Rattle.crew_explain.proofs.laws.rules_tell_the_pairings.Goals as goal

pub returns-clause-legal : goal.returns-clause-legal
returns-clause-legal c = legal-told

pub returns-clause-unbroken : goal.returns-clause-unbroken
returns-clause-unbroken c = told-legal
