use Rattle.std.proofs.Common.{rules}
use Rattle.crew_dirty.proofs.bases.is_same_price.Goals as goal

pub returns-in-Some-Some : goal.returns-in-Some-Some
returns-in-Some-Some c = search rules
