use Rattle.std.proofs.Common.{◌≡◌, take}
use Rattle.crew_audit.proofs.legs.followed_by.Given as goal

abbrev pub invariant-loop-leg : goal.invariant-loop-leg
invariant-loop-leg l = l.longer ≡ take l.leg-index l.legs
