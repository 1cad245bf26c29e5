use Rattle.std.proofs.Common.{Some, ◌≡◌, ◌<◌, ◌+◌, ◌-◌, ◌∙◌, ℕ, List, Option, ap, arith, length, length-append, sym}
use Rattle.std.specs.Prelude.{slice_get}
use Rattle.std.proofs.lemmas.Option.{slice_get-get_or}
use Rattle.crew_carry.specs.Machinery.Places.{is_missing, own_places}
use Rattle.crew_carry.proofs.Standing.{after-seam, length-own, own-gone, own-stays, own-told}
use Rattle.crew_carry.proofs.places.Places.at.Goals as goal

pub index-requires : goal.index-requires
index-requires c =
    let own = own_places c.self.inside.count c.self.inside.missing.items in
    let told = c.self.inside.told in
    omega (arith, c.requires, ap length c.self.view_is, length-append own told.items, length-own c.self.inside.count c.self.inside.missing.items, told.ok.0, c.if-place-self.true)

pub returns-then-place-self : goal.returns-then-place-self
returns-then-place-self c =
    let own = own_places c.self.inside.count c.self.inside.missing.items in
    let told = c.self.inside.told.items in
    let long = length-own c.self.inside.count c.self.inside.missing.items in
    let k = c.args.walk - c.self.inside.count in
    let seam : c.args.walk ≡ length own + k = omega (arith, long, c.if-place-self.true) in
    let within : k < length told = omega (arith, c.requires, ap length c.self.view_is, length-append own told, long, c.if-place-self.true) in
    ap (λ (ps : List (Option ℕ)). slice_get ps c.args.walk) (sym c.self.view_is) ∙ (after-seam own told c.args.walk k seam ∙ (slice_get-get_or told k c.index.result.now within ∙ ap (λ (o : Option ℕ). Some o) (sym c.index.ensures)))

pub returns-then-has : goal.returns-then-has
returns-then-has c =
    let missing = c.self.inside.missing.items in
    ap (λ (ps : List (Option ℕ)). slice_get ps c.args.walk) (sym c.self.view_is) ∙ (own-told c.self.inside.count missing c.self.inside.told.items c.args.walk (omega (arith, c.if-place-self.false)) ∙ ap (λ (o : Option ℕ). Some o) (own-gone missing c.args.walk (sym (c.has.ensures ∙ ap (λ (ns : List ℕ). is_missing ns c.args.walk) c.deref.ensures.value) ∙ c.if-has.true)))

pub returns-else-has : goal.returns-else-has
returns-else-has c =
    let missing = c.self.inside.missing.items in
    ap (λ (ps : List (Option ℕ)). slice_get ps c.args.walk) (sym c.self.view_is) ∙ (own-told c.self.inside.count missing c.self.inside.told.items c.args.walk (omega (arith, c.if-place-self.false)) ∙ ap (λ (o : Option ℕ). Some o) (own-stays missing c.args.walk (sym (c.has.ensures ∙ ap (λ (ns : List ℕ). is_missing ns c.args.walk) c.deref.ensures.value) ∙ c.if-has.false)))
