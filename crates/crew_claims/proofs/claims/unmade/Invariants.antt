use Rattle.std.proofs.Common.{◌≡◌, All, None, length}
use Rattle.crew_claims.proofs.claims.unmade.Given as goal

abbrev pub invariant-loop : goal.invariant-loop
invariant-loop g l = (length l.places.items ≡ l.counter) × All (λ place. place ≡ None) l.places.items
