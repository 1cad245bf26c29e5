use Rattle.std.proofs.Common.{rules}
use Rattle.crew_pairing.proofs.events.DutyPlaced.arrival.Goals as goal

pub returns : goal.returns
returns c = search rules
