use Rattle.crew_numbers.proofs.Shown.{one-duty}
use Rattle.crew_numbers.proofs.laws.numbers_tell_duties.Goals as goal

pub returns : goal.returns
returns c = one-duty
