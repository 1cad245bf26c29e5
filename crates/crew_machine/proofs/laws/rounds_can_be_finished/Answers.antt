use Rattle.crew_machine.proofs.CrewLaws.{crew-laws}
use Rattle.crew_machine.proofs.Finish.{round-ends}
use Rattle.crew_machine.proofs.Runs.{all_sound}
use Rattle.crew_machine.specs.Crew.{crew}
use Rattle.crew_machine.proofs.laws.rounds_can_be_finished.Goals as goal

pub returns : goal.returns
returns c = λ s acts replies state checked run round is none.
    round-ends s checked state round is ((all_sound (crew s) (crew-laws s checked) acts replies state run).board.round round is) none
