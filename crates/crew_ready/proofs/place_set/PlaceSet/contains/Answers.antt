use Rattle.std.proofs.Common.{◌≡◌, ◌/◌, ◌%◌, ◌<◌, nat_eq, false, get_or, length, sym, ◌∙◌, ap, subst, arith}
use Rattle.std.specs.Int.{bit_at}
use Rattle.std.proofs.lemmas.Grind.{get_or_default_zero}
use Rattle.crew_ready.proofs.Rows.{flag-at, flag-past}
use Rattle.crew_ready.specs.Machinery.Words.{flag_in}
use Rattle.crew_ready.proofs.place_set.PlaceSet.contains.Goals as goal

pub returns-then-place-self : goal.returns-then-place-self
returns-then-place-self c = sym (subst (λ z. get_or z c.args.place false ≡ false) c.self.view_is (flag-past c.self.inside.count c.self.inside.words.items c.args.place c.if-place-self.true))

pub returns : goal.returns
returns c =
    let words = c.self.inside.words.items in
    let place = c.args.place in
    let enough = c.self.invariant.0.enough in
    let below : place < c.self.inside.count = c.if-place-self.false in
    let within : place / 64 < length words = omega (arith, enough, below) in
    let read : c.index.result.now ≡ get_or words (place / 64) 0 = c.index.ensures ∙ get_or_default_zero words (place / 64) c.index.result.now within in
    let own : get_or c.args.self.now place false ≡ flag_in words place = subst (λ z. get_or z place false ≡ flag_in words place) c.self.view_is (flag-at c.self.inside.count words place false below) in
    c.has_bit.ensures ∙ (ap (λ z. nat_eq (bit_at z (place % 64)) 1) read ∙ sym own)
