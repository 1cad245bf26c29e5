use Rattle.std.proofs.Common.{◌≡◌, subst, sym, to_z, of_z, w64, arith}
use Rattle.std.specs.Prelude.{◌≤ℤ◌}
use Rattle.std.proofs.lemmas.Int.{ints}
use Rattle.crew_solve.specs.Machinery.Floors.{MayCost}
use Rattle.crew_solve.proofs.Flooring.{keep-above}
use Rattle.crew_solve.proofs.floors.may_want.Goals as goal

pub returns-in-Some : goal.returns-in-Some
returns-in-Some c = λ none ps may.
    let least = c.in-Some.least in
    let whole : to_z w64 (of_z w64 least) ≡ least = omega (arith, ints) in
    let known = subst (λ o. MayCost c.args.kept.now.beside o ps) c.in-Some.is may in
    keep-above c.args.kept.now least ps known (λ p more. c.wants.ensures none p (subst (λ z. z ≤ℤ p.cost) (sym whole) more))
