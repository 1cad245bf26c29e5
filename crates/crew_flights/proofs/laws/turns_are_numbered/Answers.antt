use Rattle.crew_flights.proofs.Numbers.{numbered_in_turn}
use Rattle.crew_flights.proofs.laws.turns_are_numbered.Goals as goal

pub returns : goal.returns
returns c = numbered_in_turn
