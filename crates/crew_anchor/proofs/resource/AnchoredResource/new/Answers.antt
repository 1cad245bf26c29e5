use Rattle.std.proofs.Common.{◌≡◌, ◌∙◌, ap, arith, of_z, to_z, w32, w64, ℤ}
use Rattle.std.proofs.lemmas.Int.{ints}
use Rattle.crew_flights.specs.Timetable.{IsBasePrice}
use Rattle.crew_anchor.specs.Stages.{anchored_resource}
use Rattle.crew_anchor.specs.declared.resource.AnchoredResource.{AnchoredResource}
use Rattle.crew_anchor.proofs.resource.AnchoredResource.new.Goals as goal

narrowed : (price : ℤ) → IsBasePrice price → to_z w32 (of_z w32 (to_z w64 (of_z w64 price))) ≡ price
narrowed price h =
    let a = h.least in
    let b = h.most in
    omega (arith, ints, a, b)

pub returns-clause-made : goal.returns-clause-made
returns-clause-made c =
    let s = c.args.settings.now in
    let passed = to_z w32 (of_z w32 (to_z w64 (of_z w64 c.args.base_price))) in
    ap (λ k. let r : AnchoredResource = record (anchored_resource s passed) { fdp_cap = k } in r) c.min.ensures
    ∙ ap (anchored_resource s) (narrowed c.args.base_price c.requires.price)
