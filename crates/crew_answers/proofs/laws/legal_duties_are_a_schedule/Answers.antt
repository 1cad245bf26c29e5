use Rattle.crew_answers.proofs.Scheduled.{same-count, scheduled}
use Rattle.crew_answers.proofs.laws.legal_duties_are_a_schedule.Goals as goal

pub returns-clause-schedule : goal.returns-clause-schedule
returns-clause-schedule c = scheduled

pub returns-clause-count : goal.returns-clause-count
returns-clause-count c = λ r. same-count
