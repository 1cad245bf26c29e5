use Rattle.std.proofs.Common.{Some, ◌≡◌, ◌+◌, ◌-◌, ◌∙◌, inl, ℕ, List, Option, ap, arith, length, length-append, sym}
use Rattle.std.specs.Prelude.{slice_set}
use Rattle.crew_carry.specs.Machinery.Places.{own_places}
use Rattle.crew_carry.proofs.Standing.{length-own, set-seam}
use Rattle.crew_carry.proofs.places.Places.put.Goals as goal

pub index_mut-requires : goal.index_mut-requires
index_mut-requires c =
    let own = own_places c.self.inside.count c.self.inside.missing.items in
    let told = c.self.inside.told in
    omega (arith, c.requires, ap length c.self.view_is, length-append own told.items, length-own c.self.inside.count c.self.inside.missing.items, told.ok.0, c.if-at-self.true)

pub returns-then-at-self : goal.returns-then-at-self
returns-then-at-self c =
    let own = own_places c.self.inside.count c.self.inside.missing.items in
    let told = c.self.inside.told.items in
    let k = c.args.walk - c.self.inside.count in
    let seam : c.args.walk ≡ length own + k = omega (arith, length-own c.self.inside.count c.self.inside.missing.items, c.if-at-self.true) in
    inl (sym (ap (λ (ps : List (Option ℕ)). slice_set ps c.args.walk (Some c.args.place)) (sym c.self.view_is) ∙ set-seam own told c.args.walk k (Some c.args.place) seam))
