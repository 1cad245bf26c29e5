use Rattle.crew_machine.proofs.Chosen.{chosen_run}
use Rattle.crew_machine.specs.Crew.{crew}
use Rattle.crew_machine.specs.Steps.{start}
use Rattle.crew_machine.proofs.laws.chosen_runs_are_runs.Goals as goal

pub returns : goal.returns
returns c = λ s acts replies state run. chosen_run (crew s) (start (crew s)) acts replies state run
