use Rattle.std.proofs.Common.{rules}
use Rattle.crew_anchor.proofs.resource.AnchoredResourceResource.extend.Goals as goal

pub returns : goal.returns
returns c = search rules
