use Rattle.crew_machine.proofs.CrewLaws.{crew-laws}
use Rattle.crew_machine.proofs.Served.{all_served}
use Rattle.crew_machine.specs.Crew.{crew}
use Rattle.crew_machine.proofs.laws.jobs_are_right.Goals as goal

pub returns : goal.returns
returns c = λ s acts replies state checked run number job at. (all_served (crew s) (crew-laws s checked) acts replies state run).jobs number job at
