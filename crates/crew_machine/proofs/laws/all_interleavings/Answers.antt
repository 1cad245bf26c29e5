use Rattle.crew_machine.proofs.CrewLaws.{crew-laws, version-from-scratch}
use Rattle.crew_machine.proofs.Runs.{all_sound, run_answers, run_seen}
use Rattle.crew_machine.specs.Crew.{crew}
use Rattle.crew_machine.specs.Steps.{start}
use Rattle.crew_machine.proofs.laws.all_interleavings.Goals as goal

pub returns-clause-fronts : goal.returns-clause-fronts
returns-clause-fronts c = λ s acts replies state checked run round n entries is m. ((all_sound (crew s) (crew-laws s checked) acts replies state run).board.round round is).right n entries m

pub returns-clause-chain : goal.returns-clause-chain
returns-clause-chain c = λ s acts replies state checked run. (all_sound (crew s) (crew-laws s checked) acts replies state run).chain

pub returns-clause-scratch : goal.returns-clause-scratch
returns-clause-scratch c = λ s acts replies state checked run place version at. version-from-scratch s checked version ((all_sound (crew s) (crew-laws s checked) acts replies state run).published place version at)

pub returns-clause-answers : goal.returns-clause-answers
returns-clause-answers c = λ s acts replies state checked run reader place version m. run_answers (crew s) (crew-laws s checked) (start (crew s)) acts replies state reader place version run m

pub returns-clause-never_back : goal.returns-clause-never_back
returns-clause-never_back c = λ s acts replies state checked run reader. run_seen (crew s) (crew-laws s checked) reader (start (crew s)) acts replies state run
