use Rattle.std.proofs.Common.{◌≡◌, take}
use Rattle.crew_audit.proofs.chain.followed_by.Given as goal

abbrev pub invariant-loop-duty : goal.invariant-loop-duty
invariant-loop-duty l = l.longer.items ≡ take l.duty-index l.before
