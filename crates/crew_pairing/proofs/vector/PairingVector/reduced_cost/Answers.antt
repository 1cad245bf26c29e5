use Rattle.std.proofs.Common.{rules}
use Rattle.crew_pairing.proofs.vector.PairingVector.reduced_cost.Goals as goal

pub returns : goal.returns
returns c = search rules
