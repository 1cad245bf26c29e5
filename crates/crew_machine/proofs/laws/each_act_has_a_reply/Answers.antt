use Rattle.crew_machine.proofs.Chosen.{chosen_step}
use Rattle.crew_machine.proofs.CrewLaws.{crew-laws}
use Rattle.crew_machine.proofs.Logged.{all_logged}
use Rattle.crew_machine.proofs.Replies.{some-reply}
use Rattle.crew_machine.proofs.Runs.{all_sound}
use Rattle.crew_machine.proofs.Served.{all_served}
use Rattle.crew_machine.specs.Crew.{crew}
use Rattle.crew_machine.proofs.laws.each_act_has_a_reply.Goals as goal

pub returns-clause-chosen : goal.returns-clause-chosen
returns-clause-chosen c = λ s acts replies state act checked run.
    some-reply s checked state (all_sound (crew s) (crew-laws s checked) acts replies state run) (all_logged (crew s) acts replies state run) (all_served (crew s) (crew-laws s checked) acts replies state run) act

pub returns-clause-free : goal.returns-clause-free
returns-clause-free c = λ s acts replies state act checked run.
    let r = some-reply s checked state (all_sound (crew s) (crew-laws s checked) acts replies state run) (all_logged (crew s) acts replies state run) (all_served (crew s) (crew-laws s checked) acts replies state run) act in
    (r.0, r.1, chosen_step (crew s) state act r.0 r.1 r.2)
