use Rattle.crew_history.proofs.OfDuties.{free_minutes_told}
use Rattle.crew_history.proofs.laws.last_rests_tell_free_minutes.Goals as goal

pub returns : goal.returns
returns c = free_minutes_told
