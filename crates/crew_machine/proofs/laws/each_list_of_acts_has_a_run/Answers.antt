use Rattle.crew_machine.proofs.Replies.{some-play}
use Rattle.crew_machine.proofs.laws.each_list_of_acts_has_a_run.Goals as goal

pub returns : goal.returns
returns c = λ s acts checked. some-play s checked acts
