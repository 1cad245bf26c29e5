use Rattle.crew_machine.proofs.CrewLaws.{crew-laws, timetable-sound}
use Rattle.crew_machine.proofs.Progress.{some-claim}
use Rattle.crew_machine.proofs.Runs.{all_sound}
use Rattle.crew_machine.proofs.Claimed.{claim-step}
use Rattle.crew_machine.specs.Crew.{crew, timetable_of}
use Rattle.crew_machine.proofs.laws.rounds_never_get_stuck.Goals as goal

pub returns : goal.returns
returns c = λ s acts replies state checked run round n cell is none m undone.
    let k = some-claim s checked (timetable_of round.entries) (timetable-sound round.entries) round.cells (((all_sound (crew s) (crew-laws s checked) acts replies state run).board.round round is).nodes) none n cell m undone in
    claim-step s state round k.0 k.1 is k.2 k.3 k.4
