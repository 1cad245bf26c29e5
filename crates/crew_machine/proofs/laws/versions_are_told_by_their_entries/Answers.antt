use Rattle.crew_machine.proofs.Alike.{versions-alike}
use Rattle.crew_machine.proofs.CrewLaws.{crew-laws}
use Rattle.crew_machine.proofs.Runs.{all_sound}
use Rattle.crew_machine.specs.Crew.{crew}
use Rattle.crew_machine.proofs.laws.versions_are_told_by_their_entries.Goals as goal

pub returns : goal.returns
returns c = λ s acts others replies answers state other checked run again i j v w at there same.
    versions-alike s checked v w ((all_sound (crew s) (crew-laws s checked) acts replies state run).published i v at) ((all_sound (crew s) (crew-laws s checked) others answers other again).published j w there) same
