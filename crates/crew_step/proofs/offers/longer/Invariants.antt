use Rattle.std.proofs.Common.{◌≡◌, take}
use Rattle.crew_step.proofs.offers.longer.Given as goal

abbrev pub invariant-loop-known : goal.invariant-loop-known
invariant-loop-known l = l.keys.items ≡ take l.known-index l.known-items
