use Rattle.std.proofs.Common.{◌≡◌, ◌∙◌, ◌∷◌, [], ap, sym, subst, to_z, of_z, w64, ℤ, arith}
use Rattle.std.specs.Prelude.{◌≤ℤ◌}
use Rattle.std.specs.Int.{int_min}
use Rattle.std.proofs.lemmas.Int.{ints}
use Rattle.crew_pairing.specs.Vectors.{reduced_cost}
use Rattle.crew_solve.specs.Machinery.Floors.{CostFrom}
use Rattle.crew_solve.specs.Machinery.Homes.{pairing_at}
use Rattle.crew_solve.specs.Machinery.Keeps.{keep}
use Rattle.crew_solve.proofs.Floored.{as-much}
use Rattle.crew_solve.proofs.Flooring.{from-one, from-unasked-one, keep-unasked}
use Rattle.crew_solve.proofs.Marking.{unasked-marked}
use Rattle.crew_solve.proofs.Pairings.{has-pay, paired, shown-as}
use Rattle.crew_solve.proofs.best.keep_of_label.Goals as goal

less-than : (m a c : ℤ) → m ≡ int_min a c → m ≤ℤ c
less-than m a c e = grind (arith, ints)

pub pairing_of-requires-clause-pay : goal.pairing_of-requires-clause-pay
pairing_of-requires-clause-pay c =
    let whole : to_z w64 (of_z w64 c.args.minute) ≡ c.args.minute = omega (arith, ints) in
    let is = shown-as c.args.sweep.now c.resource.result.now _ c.args.minute c.args.label.now.0 c.show-vector.result c.show-vector.ensures c.resource.ensures whole in
    has-pay c.args.sweep.now c.args.minute c.args.label.now c.args.trip_rig c.show-vector.result c.requires.showable c.requires.rate is

pub returns-then-not-wants-clause-kept : goal.returns-then-not-wants-clause-kept
returns-then-not-wants-clause-kept c =
    let b = c.args.sweep.now in
    let l = c.args.label.now in
    let whole : to_z w64 (of_z w64 c.args.minute) ≡ c.args.minute = omega (arith, ints) in
    let is = shown-as b c.resource.result.now _ c.args.minute l.0 c.show-vector.result c.show-vector.ensures c.resource.ensures whole in
    let cost : to_z w64 (of_z w64 c.reduced_cost-cost.result) ≡ c.reduced_cost-cost.result = omega (arith, ints) in
    let own = cost ∙ (c.reduced_cost-cost.ensures ∙ ap reduced_cost is) in
    sym (c.wants.ensures c.if-not-wants.true (pairing_at b c.args.minute l) (as-much _ _ own))

pub returns-then-not-wants-clause-floor : goal.returns-then-not-wants-clause-floor
returns-then-not-wants-clause-floor c =
    let b = c.args.sweep.now in
    let l = c.args.label.now in
    let whole : to_z w64 (of_z w64 c.args.minute) ≡ c.args.minute = omega (arith, ints) in
    let is = shown-as b c.resource.result.now _ c.args.minute l.0 c.show-vector.result c.show-vector.ensures c.resource.ensures whole in
    let cost : to_z w64 (of_z w64 c.reduced_cost-cost.result) ≡ c.reduced_cost-cost.result = omega (arith, ints) in
    let own = cost ∙ (c.reduced_cost-cost.ensures ∙ ap reduced_cost is) in
    let p = pairing_at b c.args.minute l in
    let next : to_z w64 (of_z w64 c.floor_with.result) ≡ c.floor_with.result = omega (arith, ints) in
    subst (λ z. CostFrom c.args.kept.now.beside z (p ∷ [])) (sym next) (c.floor_with.ensures.floor p (sym own) (sym c.new-walk.ensures))

pub returns-then-not-wants-clause-less : goal.returns-then-not-wants-clause-less
returns-then-not-wants-clause-less c = omega (arith, ints, c.floor_with.ensures.less)

pub returns-then-not-may_pass-clause-kept : goal.returns-then-not-may_pass-clause-kept
returns-then-not-may_pass-clause-kept c =
    let b = c.args.sweep.now in
    let l = c.args.label.now in
    let whole : to_z w64 (of_z w64 c.args.minute) ≡ c.args.minute = omega (arith, ints) in
    let is = shown-as b c.resource.result.now _ c.args.minute l.0 c.show-vector.result c.show-vector.ensures c.resource.ensures whole in
    let cost : to_z w64 (of_z w64 c.reduced_cost-cost.result) ≡ c.reduced_cost-cost.result = omega (arith, ints) in
    let own = cost ∙ (c.reduced_cost-cost.ensures ∙ ap reduced_cost is) in
    sym (keep-unasked c.args.kept.now (pairing_at b c.args.minute l) (c.may_pass.ensures c.if-not-may_pass.true (pairing_at b c.args.minute l) (sym own) (sym c.new-walk.ensures)))

pub returns-then-not-may_pass-clause-floor : goal.returns-then-not-may_pass-clause-floor
returns-then-not-may_pass-clause-floor c =
    let b = c.args.sweep.now in
    let l = c.args.label.now in
    let p = pairing_at b c.args.minute l in
    let whole : to_z w64 (of_z w64 c.args.minute) ≡ c.args.minute = omega (arith, ints) in
    let is = shown-as b c.resource.result.now _ c.args.minute l.0 c.show-vector.result c.show-vector.ensures c.resource.ensures whole in
    let cost : to_z w64 (of_z w64 c.reduced_cost-cost.result) ≡ c.reduced_cost-cost.result = omega (arith, ints) in
    let own = cost ∙ (c.reduced_cost-cost.ensures ∙ ap reduced_cost is) in
    let out = c.may_pass.ensures c.if-not-may_pass.true p (sym own) (sym c.new-walk.ensures) in
    from-unasked-one c.args.kept.now.beside _ p out

pub returns-clause-kept : goal.returns-clause-kept
returns-clause-kept c =
    let b = c.args.sweep.now in
    let l = c.args.label.now in
    let whole : to_z w64 (of_z w64 c.args.minute) ≡ c.args.minute = omega (arith, ints) in
    let is = shown-as b c.resource.result.now _ c.args.minute l.0 c.show-vector.result c.show-vector.ensures c.resource.ensures whole in
    let p = paired b c.args.minute l c.args.trip_rig c.show-vector.result c.in_ok-pairing.pairing c.in_ok-pairing.ensures c.requires.rate is in
    c.in_ok-keep.ensures.kept ∙ ap (keep c.args.kept.now) p

pub returns-clause-floor : goal.returns-clause-floor
returns-clause-floor c =
    let b = c.args.sweep.now in
    let l = c.args.label.now in
    let p = pairing_at b c.args.minute l in
    let whole : to_z w64 (of_z w64 c.args.minute) ≡ c.args.minute = omega (arith, ints) in
    let is = shown-as b c.resource.result.now _ c.args.minute l.0 c.show-vector.result c.show-vector.ensures c.resource.ensures whole in
    let cost : to_z w64 (of_z w64 c.reduced_cost-cost.result) ≡ c.reduced_cost-cost.result = omega (arith, ints) in
    let own = cost ∙ (c.reduced_cost-cost.ensures ∙ ap reduced_cost is) in
    let next : to_z w64 (of_z w64 c.min.result) ≡ c.min.result = omega (arith, ints) in
    let low : to_z w64 (of_z w64 c.args.floor) ≡ c.args.floor = omega (arith, ints) in
    from-one c.args.kept.now.beside _ p (less-than _ _ _ (next ∙ (c.min.ensures.value ∙ (λ i. int_min (low i) (own i)))))

pub returns-then-is_marked-clause-kept : goal.returns-then-is_marked-clause-kept
returns-then-is_marked-clause-kept c =
    let b = c.args.sweep.now in
    let k = c.args.kept.now in
    let label = c.args.label.now in
    sym (keep-unasked k (pairing_at b c.args.minute label) (unasked-marked k.beside b c.args.marks.now c.args.minute label c.requires.marks (sym c.is_marked.ensures ∙ c.if-is_marked.true)))

pub returns-then-is_marked-clause-floor : goal.returns-then-is_marked-clause-floor
returns-then-is_marked-clause-floor c =
    let b = c.args.sweep.now in
    let k = c.args.kept.now in
    let label = c.args.label.now in
    from-unasked-one k.beside _ (pairing_at b c.args.minute label) (unasked-marked k.beside b c.args.marks.now c.args.minute label c.requires.marks (sym c.is_marked.ensures ∙ c.if-is_marked.true))

first-of : (m a b : ℤ) → m ≡ int_min a b → m ≤ℤ a
first-of m a b e = grind (arith, ints)

pub returns-clause-less : goal.returns-clause-less
returns-clause-less c =
    let next : to_z w64 (of_z w64 c.min.result) ≡ c.min.result = omega (arith, ints) in
    let low : to_z w64 (of_z w64 c.args.floor) ≡ c.args.floor = omega (arith, ints) in
    first-of _ _ _ (next ∙ (c.min.ensures.value ∙ ap (λ z. int_min z (to_z w64 (of_z w64 c.reduced_cost-cost.result))) low))
