use Rattle.std.proofs.Common.{◌≡◌, ◌∙◌, [], ap, arith, length}
use Rattle.std.proofs.lemmas.List.{length_push}
use Rattle.crew_resource.specs.Members.{Member}
use Rattle.crew_sweep.specs.declared.lanes.Lane.{Lane}
use Rattle.crew_sweep.proofs.Listing.{member-next, member-push}
use Rattle.crew_sweep.proofs.lanes.lanes_of.Goals as goal

pub loop-slide-preserved : goal.loop-slide-preserved
loop-slide-preserved c =
    let slides = c.args.slides.items in
    let inv = c.loop-slide.invariant in
    let steps = c.in-Some.ensures.steps in
    let next = member-next (Member slides) _ _ _ steps.0 inv.1 in
    let longer = ap length c.in_ok-push.ensures.items ∙ length_push c.loop-slide.lanes.items _ in
    let fewer = ap length steps.0 in
    let counted = inv.0 in (
      omega (arith, longer, fewer, counted),
      next.1,
      member-push (λ (lane : Lane). Member slides lane.slide × (lane.positions.items ≡ []) × (lane.waiting.items ≡ [])) c.loop-slide.lanes.items c.push.new.self.items _ c.in_ok-push.ensures.items inv.2 (next.0, c.new.ensures.items, c.new-in-loop-slide.ensures.items),
    )
