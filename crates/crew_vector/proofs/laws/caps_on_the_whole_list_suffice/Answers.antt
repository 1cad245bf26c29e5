use Rattle.crew_vector.proofs.Fitting.{caps-of-whole}
use Rattle.crew_vector.proofs.laws.caps_on_the_whole_list_suffice.Goals as goal

pub returns : goal.returns
returns c = caps-of-whole
