use Rattle.std.proofs.Common.{◌≡◌, length}
use Rattle.std.specs.Fork.{GivesEach}
use Rattle.crew_claims.proofs.claims.complete.Given as goal

abbrev pub invariant-loop-place : goal.invariant-loop-place
invariant-loop-place g l = (length l.made.items ≡ length l.yielded) × GivesEach g.F.Fn l.f (length l.yielded) l.made.items
