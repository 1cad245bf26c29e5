use Rattle.std.proofs.Common.{◌≡◌, ◌∙◌, ◌<◌, ◌≤◌, ◌++◌, ◌∷◌, [], ℕ, ℤ, Bool, true, false, not, List, ap, arith, get_or, length, map, refl, sym, take}
use Rattle.std.proofs.lemmas.List.{map-append}
use Rattle.std.specs.Ordering.{eq_by_cmp}
use Rattle.crew_flights.specs.Codes.{code_cmp}
use Rattle.crew_plan.proofs.Among.{key-more, take-all}
use Rattle.crew_fronts.proofs.crew_solve_lemmas.Departing.{read-at}
use Rattle.crew_fronts.proofs.crew_solve_lemmas.crew_vector_lemmas.Orders.{same-code}
use Rattle.crew_plan.proofs.alike.are_same_bases.Goals as goal

abbrev code : List ℕ × ℤ → List ℕ
code base = base.0

not-false : (b : Bool) → false ≡ not b → b ≡ true
not-false true e = refl
not-false false e = cc

pub loop-place-preserved : goal.loop-place-preserved
loop-place-preserved c =
    let bases = c.args.bases.now in
    let priced = c.args.priced.now in
    let i = c.loop-place.place in
    let b = c.index-bases-place.result in
    let p = c.index-priced-place.result in
    let many = c.if-bases-priced.false in
    let within : i < length priced = omega (arith, many, c.loop-place-test.true) in
    let first = key-more bases i b (read-at bases bases i b refl c.loop-place-test.true c.index-bases-place.is) in
    let second = ap (map code) (key-more priced i p (read-at priced priced i p refl within c.index-priced-place.is)) ∙ map-append code (take i priced) (p ∷ []) in
    let read = get_or priced i p in
    let same : b ≡ p.0 = same-code b read.0 (not-false (eq_by_cmp code_cmp b read.0) c.if-ne.ensures) ∙ ap code (sym c.index-priced-place.is) in
    let so_far : take i bases ≡ map code (take i priced) = c.loop-place.invariant in
    let both : take i bases ++ b ∷ [] ≡ map code (take i priced) ++ p.0 ∷ [] = λ j. so_far j ++ same j ∷ [] in
    first ∙ (both ∙ sym second)

pub returns : goal.returns
returns c = λ _.
    let bases = c.args.bases.now in
    let priced = c.args.priced.now in
    let i = c.loop-place.place in
    let many = c.if-bases-priced.false in
    let past : length priced ≤ i = omega (arith, many, c.loop-place-test.false) in
    let so_far : take i bases ≡ map code (take i priced) = c.loop-place.invariant in
    sym (take-all bases i c.loop-place-test.false) ∙ (so_far ∙ ap (map code) (take-all priced i past))
