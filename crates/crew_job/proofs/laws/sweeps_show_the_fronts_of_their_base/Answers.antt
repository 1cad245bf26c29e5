use Rattle.crew_job.proofs.BaseSweeps.{shows-front}
use Rattle.crew_job.proofs.laws.sweeps_show_the_fronts_of_their_base.Goals as goal

pub returns : goal.returns
returns c = λ g base rank b n is sweep e. shows-front g is base rank b n sweep e
