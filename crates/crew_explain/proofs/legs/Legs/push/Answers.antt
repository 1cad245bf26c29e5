use Rattle.std.proofs.Common.{◌++◌, ◌∷◌, [], ◌∙◌, ap, arith, length}
use Rattle.std.proofs.lemmas.List.{take_more_set}
use Rattle.std.proofs.Math.ListN.{length-take}
use Rattle.crew_explain.proofs.legs.Legs.push.Goals as goal

pub returns : goal.returns
returns c =
    let legs = c.self.inside.legs in
    let n = c.self.inside.count in
    take_more_set legs n c.args.leg.now (omega (arith, ap length c.self.view_is, length-take n legs))
    ∙ ap (λ xs. xs ++ c.args.leg.now ∷ []) c.self.view_is
