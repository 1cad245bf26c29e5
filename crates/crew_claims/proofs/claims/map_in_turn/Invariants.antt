use Rattle.std.proofs.Common.{◌≡◌, length}
use Rattle.std.specs.Fork.{GivesEach}
use Rattle.crew_claims.proofs.claims.map_in_turn.Given as goal

abbrev pub invariant-loop-index : goal.invariant-loop-index
invariant-loop-index g l = (length l.made.items ≡ l.index) × GivesEach g.F.Fn l.f l.index l.made.items
