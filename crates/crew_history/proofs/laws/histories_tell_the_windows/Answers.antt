use Rattle.crew_history.proofs.OfDuties.{windows_told}
use Rattle.crew_history.proofs.laws.histories_tell_the_windows.Goals as goal

pub returns : goal.returns
returns c = windows_told
