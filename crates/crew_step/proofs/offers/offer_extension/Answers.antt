use Rattle.std.proofs.Common.{◌++◌, ◌∷◌, []}
use Rattle.crew_step.proofs.Offered.{offered-is}
use Rattle.crew_step.proofs.offers.offer_extension.Goals as goal

pub returns : goal.returns
returns g c candidates local =
    let e = c.args.entry.now in
    let last = c.args.last.now in
    let next = c.args.next.now in
    let after = g.R.Resource.extends c.args.resource.now e.0 last next in
    let h = c.in_ok-offer.ensures.local candidates local in
    offered-is g.R.Resource.below candidates c.offer.new.self after c.in-Some.value (e.1 ++ next.key ∷ []) c.in_ok-walk.walk c.in-Some.ensures.value c.in_ok-walk.ensures h
