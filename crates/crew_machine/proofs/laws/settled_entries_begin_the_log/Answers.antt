use Rattle.crew_machine.proofs.Logged.{all_logged, run_log}
use Rattle.crew_machine.specs.Crew.{crew}
use Rattle.crew_machine.specs.Steps.{start}
use Rattle.crew_machine.proofs.laws.settled_entries_begin_the_log.Goals as goal

pub returns-clause-log : goal.returns-clause-log
returns-clause-log c = λ s acts replies state run. run_log (crew s) (start (crew s)) acts replies state run

pub returns-clause-published : goal.returns-clause-published
returns-clause-published c = λ s acts replies state run place version at. (all_logged (crew s) acts replies state run).published place version at

pub returns-clause-sealed : goal.returns-clause-sealed
returns-clause-sealed c = λ s acts replies state run. (all_logged (crew s) acts replies state run).sealed

pub returns-clause-begun : goal.returns-clause-begun
returns-clause-begun c = λ s acts replies state run round is. (all_logged (crew s) acts replies state run).round round is
