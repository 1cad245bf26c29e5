use Rattle.std.proofs.Common.{All}
use Rattle.crew_claims.specs.Machinery.Claims.{IsMade}
use Rattle.crew_claims.proofs.claims.claim.Given as goal

abbrev pub invariant-loop : goal.invariant-loop
invariant-loop g l = All (IsMade g.F.Fn l.f l.claims) l.made.items
