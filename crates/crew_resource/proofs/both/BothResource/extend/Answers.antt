use Rattle.std.proofs.Common.{rules}
use Rattle.crew_resource.proofs.both.BothResource.extend.Goals as goal

pub returns : goal.returns
returns g c = search rules
