use Rattle.std.proofs.Common.{◌≡◌, map, take}
use Rattle.crew_audit.proofs.chain.walk_of.Given as goal

abbrev pub invariant-loop-duty : goal.invariant-loop-duty
invariant-loop-duty l = l.keys.items ≡ map (λ d. d.key) (take l.duty-index l.duties)
