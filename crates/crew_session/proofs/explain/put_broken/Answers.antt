use Rattle.std.proofs.Common.{append_assoc, rules}
use Rattle.crew_session.proofs.explain.put_broken.Goals as goal

pub returns : goal.returns
returns c = search (rules, append_assoc)
