use Rattle.std.proofs.Common.{◌≡◌, arith, subst}
use Rattle.std.specs.Prelude.{◌<ℤ◌}
use Rattle.std.proofs.lemmas.Int.{ints}
use Rattle.crew_solve.specs.Machinery.Keeps.{CheapestSoFar, IsBound, keep}
use Rattle.crew_solve.proofs.cheapest_so_far.CheapestSoFar.wants.Goals as goal

pub returns-in-Some : goal.returns-in-Some
returns-in-Some c = λ less p cost.
    let inside = c.self.inside in
    let known = subst (λ o. IsBound o (record { limit = inside.limit; beside = inside.beside; pairings = inside.pairings.keys })) c.in-Some.is c.self.invariant.1 in
    let more : c.in-Some.bound <ℤ p.cost = omega (arith, ints, less, cost) in
    subst (λ (k : CheapestSoFar). keep k p ≡ k) c.self.view_is (known p more)
