use Rattle.std.proofs.Common.{◌≡◌, ℤ, ◌+ℤ◌, ◌-ℤ◌, ◌*ℤ◌, ◌∙◌, ap, arith, length, of_z, pos, to_z, w64}
use Rattle.std.proofs.lemmas.Int.{ints}
use Rattle.crew_pairing.specs.Pairings.{minutes_away}
use Rattle.crew_pairing.specs.Vectors.{vector_of, prices}
use Rattle.crew_audit.proofs.Chains.{fits-less, fits-self, points-between}
use Rattle.crew_audit.proofs.chain.vector_of.Goals as goal

ap_two : {A B C : Type 0} {a b : A} {x y : B} (f : A → B → C) → a ≡ b → x ≡ y → f a x ≡ f b y
ap_two f p q = λ i. f (p i) (q i)

pub returns : goal.returns
returns c =
    let s = c.args.settings.now in
    let ds = c.args.duties.now in
    let b = c.args.base_price in
    let parts = vector_of s b ds in
    let sums = c.add_up-sums.ensures in
    let m = c.minutes_away-away.ensures in
    let rig = c.rated.ensures in
    let points = c.guaranteed.ensures in
    let few = points-between s.guarantee (length ds) c.requires.checked.guarantee c.requires.few in
    let least = c.requires.price.least in
    let most = c.requires.price.most in
    let away : to_z w64 (of_z w64 c.minutes_away-away.result) ≡ minutes_away ds = fits-self c.minutes_away-away.result (omega (arith, ints, m.bound)) (omega (arith, ints, m.bound)) ∙ m.value in
    let fdp : to_z w64 (of_z w64 c.add_up-sums.result.fdp) ≡ parts.fdp = fits-self c.add_up-sums.result.fdp sums.bound_fdp.0 sums.bound_fdp.1 ∙ sums.fdp in
    let fly : to_z w64 (of_z w64 c.add_up-sums.result.fly) ≡ parts.fly = fits-self c.add_up-sums.result.fly sums.bound_fly.0 sums.bound_fly.1 ∙ sums.fly in
    let price : c.add_up-sums.result.price +ℤ b ≡ prices b ds = ap (λ (z : ℤ). z +ℤ b) sums.price in
    let pay = fits-less c.add_up-sums.result.pay c.add_up-sums.result.price b sums.bound_pay.0 sums.bound_pay.1 sums.bound_price.0 sums.bound_price.1 least most
    ∙ ap_two (λ (x y : ℤ). x -ℤ y) sums.pay price in
    let trip = fits-less c.rated.result c.add_up-sums.result.price b (omega (arith, ints, rig.bound)) (omega (arith, ints, rig.bound)) sums.bound_price.0 sums.bound_price.1 least most
    ∙ ap_two (λ (x y : ℤ). x -ℤ y) (rig.value ∙ ap (λ (z : ℤ). pos s.trip_rig *ℤ z) away) price in
    let duties : to_z w64 (length ds) ≡ pos (length ds) = omega (arith, ints, c.requires.few) in
    let guarantee = fits-less c.guaranteed.result c.add_up-sums.result.price b (omega (arith, ints, points.bound)) (omega (arith, ints, points.value, few, duties)) sums.bound_price.0 sums.bound_price.1 least most
    ∙ ap_two (λ (x y : ℤ). x -ℤ y) points.value price in
    λ i. record { duty_pay = pay i; trip_rig = trip i; guarantee = guarantee i; fdp = fdp i; fly = fly i; duties = duties i; away = away i }

pub overflow_sub-result : goal.overflow_sub-result
overflow_sub-result c =
    let sums = c.add_up-sums.ensures in
    let price = c.requires.price in
    let least = price.least in
    let most = price.most in
    omega (arith, ints, sums.bound_pay, sums.bound_price, least, most)

pub overflow_sub-result-2 : goal.overflow_sub-result-2
overflow_sub-result-2 c =
    let sums = c.add_up-sums.ensures in
    let rig = c.rated.ensures in
    let price = c.requires.price in
    let least = price.least in
    let most = price.most in
    omega (arith, ints, rig.bound, sums.bound_price, least, most)
