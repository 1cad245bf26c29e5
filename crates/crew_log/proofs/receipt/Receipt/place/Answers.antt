use Rattle.std.proofs.Common.{rules}
use Rattle.crew_log.proofs.receipt.Receipt.place.Goals as goal

pub returns : goal.returns
returns c = search rules
