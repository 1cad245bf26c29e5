use Rattle.std.proofs.Common.{rules}
use Rattle.crew_net.proofs.net.Net.next.Goals as goal

pub sharing-requires-clause-same : goal.sharing-requires-clause-same
sharing-requires-clause-same c = search rules
