use Rattle.std.proofs.Common.{◌∙◌, sym}
use Rattle.std.proofs.lemmas.Bool.{and_from, and_parts}
use Rattle.crew_step.proofs.Sames.{key-decides}
use Rattle.crew_step.proofs.same.is_same_route.Goals as goal

pub returns : goal.returns
returns c =
    let a = c.args.a.now in
    let b = c.args.b.now in (
      λ t.
          let k = and_parts _ _ t in
          let m = and_parts _ _ k.1 in
          ((key-decides a.key b.key).0 (sym c.eq.ensures ∙ k.0), c.is_same_airport.ensures.0 m.0, c.is_same_airport-2.ensures.0 m.1),
      λ e. and_from _ _ (c.eq.ensures ∙ (key-decides a.key b.key).1 e.0) (and_from _ _ (c.is_same_airport.ensures.1 e.1) (c.is_same_airport-2.ensures.1 e.2)),
    )
