use Rattle.std.proofs.Common.{rules}
use Rattle.crew_pairing.proofs.leg.LegOrd.cmp.Goals as goal

pub returns : goal.returns
returns c = search rules
