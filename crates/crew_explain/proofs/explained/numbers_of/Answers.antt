use Rattle.std.proofs.Common.{◌≡◌, ℕ, ℤ, ◌+ℤ◌, ◌-ℤ◌, ◌*ℤ◌, ◌≤ℤ◌, ◌∙◌, ap, arith, length, of_z, pos, to_z, w64}
use Rattle.std.specs.Int.{int_max}
use Rattle.std.proofs.lemmas.Int.{ints, clamps}
use Rattle.crew_pairing.specs.Legality.{total}
use Rattle.crew_pairing.specs.Pairings.{minutes_away}
use Rattle.crew_pairing.specs.Vectors.{pay_of, prices}
use Rattle.crew_pairing.specs.declared.duty.Duty.{Duty}
use Rattle.crew_explain.specs.Explanations.{way_by}
use Rattle.crew_explain.proofs.Added.{fits-less, fits-self, points-between}
use Rattle.crew_explain.proofs.explained.numbers_of.Goals as goal

ap_two : {A B C : Type 0} {a b : A} {x y : B} (f : A → B → C) → a ≡ b → x ≡ y → f a x ≡ f b y
ap_two f p q = λ i. f (p i) (q i)

greater : (a b least most : ℤ) → least ≤ℤ a → a ≤ℤ most → b ≤ℤ most → (least ≤ℤ int_max a b) × (int_max a b ≤ℤ most)
greater a b least most h k l = (omega (arith, ints, clamps, h), omega (arith, ints, clamps, k, l))

pub returns-clause-numbers : goal.returns-clause-numbers
returns-clause-numbers c =
    let s = c.args.settings.now in
    let ds = c.args.read.duties.items in
    let b = c.args.price in
    let sums = c.add_up-sums.ensures in
    let given = c.deref.ensures.value in
    let own-price = sums.price ∙ ap (total (λ (d : Duty). d.price)) given in
    let own-pay = sums.pay ∙ ap (total (λ (d : Duty). d.pay)) given in
    let m = c.minutes_away-away.ensures in
    let rig = c.rated-rig.ensures in
    let points = c.guaranteed-guarantee.ensures in
    let many : c.len.result ≡ length ds = omega (arith, c.len.ensures, c.deref.ensures.len, ap length given) in
    let value : c.guaranteed-guarantee.result ≡ pos s.guarantee *ℤ pos (length ds) = points.value ∙ ap (λ (n : ℕ). pos s.guarantee *ℤ pos n) many in
    let few = points-between s.guarantee (length ds) c.requires.checked.guarantee c.requires.few in
    let away : to_z w64 (of_z w64 c.minutes_away-away.result) ≡ minutes_away ds = fits-self c.minutes_away-away.result (omega (arith, ints, m.bound)) (omega (arith, ints, m.bound)) ∙ m.value ∙ ap minutes_away c.deref-2.ensures.value in
    let price : c.add_up-sums.result.price +ℤ b ≡ prices b ds = ap (λ (z : ℤ). z +ℤ b) own-price in
    let pays-is : to_z w64 (of_z w64 c.add_up-sums.result.pay) ≡ total (λ (d : Duty). d.pay) ds = fits-self c.add_up-sums.result.pay sums.bound_pay.0 sums.bound_pay.1 ∙ own-pay in
    let rig-is : to_z w64 (of_z w64 c.rated-rig.result) ≡ pos s.trip_rig *ℤ minutes_away ds = fits-self c.rated-rig.result (omega (arith, ints, rig.bound)) (omega (arith, ints, rig.bound)) ∙ rig.value ∙ ap (λ (z : ℤ). pos s.trip_rig *ℤ z) away in
    let points-most : c.guaranteed-guarantee.result ≤ℤ pos 200_000_000_000 = omega (arith, ints, value, few) in
    let points-is : to_z w64 (of_z w64 c.guaranteed-guarantee.result) ≡ pos s.guarantee *ℤ pos (length ds) = fits-self c.guaranteed-guarantee.result (omega (arith, ints, points.bound)) points-most ∙ value in
    let first : c.max.result ≡ int_max c.add_up-sums.result.pay c.rated-rig.result = c.max.ensures.value ∙ ap_two int_max (fits-self c.add_up-sums.result.pay sums.bound_pay.0 sums.bound_pay.1) (fits-self c.rated-rig.result (omega (arith, ints, rig.bound)) (omega (arith, ints, rig.bound))) in
    let between = greater c.add_up-sums.result.pay c.rated-rig.result (pos 0 -ℤ pos 200_000_000_000) (pos 200_000_000_000) sums.bound_pay.0 sums.bound_pay.1 (omega (arith, ints, rig.bound)) in
    let second : c.max-pay.result ≡ int_max (int_max c.add_up-sums.result.pay c.rated-rig.result) c.guaranteed-guarantee.result =
    c.max-pay.ensures.value ∙ ap_two int_max (ap (λ (z : ℤ). to_z w64 (of_z w64 z)) first ∙ fits-self _ between.0 between.1) (fits-self c.guaranteed-guarantee.result (omega (arith, ints, points.bound)) points-most) in
    let within = greater (int_max c.add_up-sums.result.pay c.rated-rig.result) c.guaranteed-guarantee.result (pos 0 -ℤ pos 200_000_000_000) (pos 200_000_000_000) between.0 between.1 points-most in
    let paid : int_max (int_max c.add_up-sums.result.pay c.rated-rig.result) c.guaranteed-guarantee.result ≡ pay_of s ds =
    ap_two int_max (ap_two int_max own-pay (rig.value ∙ ap (λ (z : ℤ). pos s.trip_rig *ℤ z) away)) value in
    let cost = fits-less (int_max (int_max c.add_up-sums.result.pay c.rated-rig.result) c.guaranteed-guarantee.result) c.add_up-sums.result.price b within.0 within.1 sums.bound_price.0 sums.bound_price.1 c.requires.price.least c.requires.price.most
    ∙ ap_two (λ (x y : ℤ). x -ℤ y) paid price in
    record {
      cost = ap (λ (z : ℤ). to_z w64 (of_z w64 (to_z w64 (of_z w64 z) -ℤ to_z w64 (of_z w64 (to_z w64 (of_z w64 c.add_up-sums.result.price) +ℤ to_z w64 (of_z w64 b)))))) second ∙ cost;
      pay = ap (λ (z : ℤ). to_z w64 (of_z w64 z)) second ∙ fits-self _ within.0 within.1 ∙ paid;
      away = away;
      way = c.way_by.ensures ∙ (λ i. way_by (pays-is i) (rig-is i) (points-is i));
    }

pub overflow_sub-result : goal.overflow_sub-result
overflow_sub-result c =
    let ds = c.args.read.duties.items in
    let sums = c.add_up-sums.ensures in
    let rig = c.rated-rig.ensures in
    let points = c.guaranteed-guarantee.ensures in
    let first = c.max.ensures.value in
    let second = c.max-pay.ensures.value in
    let price = c.requires.price in
    let least = price.least in
    let most = price.most in
    omega (arith, ints, clamps, first, second, sums.bound_pay, rig.bound, points.bound, sums.bound_price, least, most)
