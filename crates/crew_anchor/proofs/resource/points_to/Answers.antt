use Rattle.std.proofs.Common.{◌≡◌, ◌*ℤ◌, ◌*◌, pos, sym, subst, arith, of_z, to_z, w64}
use Rattle.std.specs.Prelude.{FitsSigned}
use Rattle.std.proofs.lemmas.Int.{ints, to_z-of_z}
use Rattle.crew_resource.specs.Machinery.Sum.{LiesWithin}
use Rattle.crew_anchor.specs.Machinery.AnchorLaws.{product}
use Rattle.crew_anchor.proofs.resource.points_to.Goals as goal

pub returns-clause-within : goal.returns-clause-within
returns-clause-within c =
    let rate = c.args.rate in
    let minute = c.args.minute in
    let k = product rate 2_147_483_648 minute c.requires in
    let least = k.least in
    let most = k.most in
    let p : to_z w64 (of_z w64 c.from.result) ≡ pos rate = omega (arith, ints) in
    let q : to_z w64 (of_z w64 minute) ≡ minute = omega (arith, ints) in
    let fits : FitsSigned w64 (pos rate *ℤ minute) = grind (arith, ints) in
    subst (λ x. LiesWithin (rate * 2_147_483_648) (to_z w64 (of_z w64 (x *ℤ to_z w64 (of_z w64 minute))))) (sym p)
    (subst (λ x. LiesWithin (rate * 2_147_483_648) (to_z w64 (of_z w64 (pos rate *ℤ x)))) (sym q)
    (subst (LiesWithin (rate * 2_147_483_648)) (sym (to_z-of_z w64 (pos rate *ℤ minute) fits)) k))
