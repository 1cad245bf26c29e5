use Rattle.std.proofs.Common.{arith}
use Rattle.crew_version.proofs.Places.{prefix-from}
use Rattle.crew_version.proofs.version.Version.begins.Goals as goal

pub returns : goal.returns
returns c = (λ _. prefix-from _ _ (λ k l. c.loop-place.invariant k (omega (arith, l, c.count-place-end.ensures, c.loop-place-test.false))), λ _. cc)
