use Rattle.crew_vector.proofs.Growth.{start-is, step-is}
use Rattle.crew_vector.proofs.laws.steps_are_those_of_the_vector.Goals as goal

pub returns-clause-start : goal.returns-clause-start
returns-clause-start c = start-is

pub returns-clause-step : goal.returns-clause-step
returns-clause-step c = λ s price last next v. step-is s last next v
