use Rattle.std.proofs.Common.{All, IfOk}
use Rattle.std.proofs.lemmas.List.Elements.{All-rest}
use Rattle.crew_claims.specs.Machinery.Claims.{IsMade}
use Rattle.crew_claims.proofs.Claimed.{placed-next}
use Rattle.crew_claims.proofs.claims.in_order.Goals as goal

pub loop-index-preserved-in-Some-2 : goal.loop-index-preserved-in-Some-2
loop-index-preserved-in-Some-2 g c =
    placed-next g.F.Fn c.args.f.now c.loop-index.places.items c.args.count c.in-Some-2.index c.in-Some-2.result _ _ c.in-Some-2.ensures.steps.0 c.loop-index.invariant

pub loop-index-preserved : goal.loop-index-preserved
loop-index-preserved g c =
    placed-next g.F.Fn c.args.f.now c.loop-index.places.items c.args.count c.in-Some-2.index c.in-Some-2.result _ _ c.in-Some-2.ensures.steps.0 c.loop-index.invariant

pub loop-made-preserved : goal.loop-made-preserved
loop-made-preserved g c =
    let rest = All-rest (λ list. IfOk list (λ made. All (IsMade g.F.Fn c.args.f.now c.args.count) made.items)) _ _ _ c.in-Some.ensures.steps.0 c.loop-made.invariant.2 in
    (c.loop-index.invariant.0, c.loop-index.invariant.1, rest)
