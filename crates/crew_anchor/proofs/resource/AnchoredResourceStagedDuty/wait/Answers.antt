use Rattle.std.proofs.Common.{rules}
use Rattle.crew_anchor.proofs.resource.AnchoredResourceStagedDuty.wait.Goals as goal

pub returns : goal.returns
returns c = search rules
