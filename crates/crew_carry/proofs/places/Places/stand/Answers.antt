use Rattle.std.proofs.Common.{Some, ◌≡◌, ◌<◌, ◌∙◌, ℕ, List, Option, ap, arith, false, get_or, length, subst, sym}
use Rattle.std.proofs.lemmas.Bool.Decides.{nat_tests}
use Rattle.std.proofs.lemmas.List.{get_or_default}
use Rattle.std.specs.Prelude.{slice_get}
use Rattle.crew_carry.specs.Machinery.Places.{is_missing}
use Rattle.crew_carry.proofs.Standing.{none-between, own-stays, own-told, rise-le}
use Rattle.crew_carry.proofs.places.Places.stand.Goals as goal

pub returns-then-place-len : goal.returns-then-place-len
returns-then-place-len c h walk a b =
    let missing = c.self.inside.missing.items in
    let within : walk < c.self.inside.count = omega (arith, b, c.if-last-self.true) in
    let value = c.deref.ensures.value in
    let p = c.below-place.result in
    let low = λ (i : ℕ) (g : i < p). subst (λ (ns : List ℕ). get_or ns i 0 < c.args.first) value (c.below-place.ensures.before i g) in
    let past : p ≡ c.len.result = grind (arith, nat_tests, h) in
    let none : is_missing missing walk ≡ false = none-between missing walk p c.args.first c.args.last a b low (λ i g k. absurd (omega (arith, past, c.len.ensures, c.self.inside.missing.ok.0, g, k))) in
    ap (λ (ps : List (Option ℕ)). slice_get ps walk) (sym c.self.view_is) ∙ (own-told c.self.inside.count missing c.self.inside.told.items walk within ∙ ap (λ (o : Option ℕ). Some o) (own-stays missing walk none))

pub returns-else-place-len : goal.returns-else-place-len
returns-else-place-len c h walk a b =
    let missing = c.self.inside.missing.items in
    let within : walk < c.self.inside.count = omega (arith, b, c.if-last-self.true) in
    let value = c.deref.ensures.value in
    let p = c.below-place.result in
    let low = λ (i : ℕ) (g : i < p). subst (λ (ns : List ℕ). get_or ns i 0 < c.args.first) value (c.below-place.ensures.before i g) in
    let more : c.args.last < c.index.result.now = grind (arith, nat_tests, h) in
    let within-p : p < length missing = omega (arith, c.if-place-len.false, c.len.ensures, c.self.inside.missing.ok.0, c.below-place.ensures.most, ap length value) in
    let at : c.index.result.now ≡ get_or missing p 0 = c.index.ensures ∙ get_or_default missing p c.index.result.now 0 within-p in
    let none : is_missing missing walk ≡ false = none-between missing walk p c.args.first c.args.last a b low (λ i g k. let l = rise-le missing c.self.invariant p i g k in omega (arith, l, more, at)) in
    ap (λ (ps : List (Option ℕ)). slice_get ps walk) (sym c.self.view_is) ∙ (own-told c.self.inside.count missing c.self.inside.told.items walk within ∙ ap (λ (o : Option ℕ). Some o) (own-stays missing walk none))
