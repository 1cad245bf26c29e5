use Rattle.std.proofs.Common.{◌∙◌, sym}
use Rattle.std.proofs.lemmas.Bool.{and_from, and_parts}
use Rattle.crew_net.proofs.Ranking.{equal-key, key-exact}
use Rattle.crew_pass.proofs.twins.is_same_route.Goals as goal

pub returns : goal.returns
returns c =
    let a = c.args.a.now in
    let b = c.args.b.now in (
      λ t.
          let k = and_parts _ _ t in
          let m = and_parts _ _ k.1 in
          (key-exact a.key b.key (sym c.eq.ensures ∙ k.0), c.is_same_airport.ensures.0 m.0, c.is_same_airport-2.ensures.0 m.1),
      λ e. and_from _ _ (c.eq.ensures ∙ equal-key a.key b.key e.0) (and_from _ _ (c.is_same_airport.ensures.1 e.1) (c.is_same_airport-2.ensures.1 e.2)),
    )
