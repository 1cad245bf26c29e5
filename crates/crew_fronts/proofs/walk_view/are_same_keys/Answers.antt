use Rattle.std.proofs.Common.{◌≡◌, ◌∙◌, length, refl, sym, arith}
use Rattle.crew_fronts.proofs.Places.{same-places}
use Rattle.crew_fronts.proofs.walk_view.are_same_keys.Goals as goal

pub returns : goal.returns
returns c =
    let long : length c.args.one.now ≡ length c.args.other.now = sym c.len-count.ensures ∙ (c.if-count-len.false ∙ c.len.ensures) in (
      λ t. same-places c.args.one.now c.args.other.now long (λ k h. c.loop-place.invariant k (
          let e = c.len-count.ensures in let n = c.loop-place-test.false in omega (arith, h, e, n))),
      λ e. refl,
    )
