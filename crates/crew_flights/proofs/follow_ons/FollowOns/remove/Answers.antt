use Rattle.std.proofs.Common.{◌∙◌, ap}
use Rattle.crew_flights.specs.FollowOns.{FollowOns, without_number}
use Rattle.crew_flights.proofs.Linked.{link_found, links_removed}
use Rattle.crew_flights.proofs.follow_ons.FollowOns.remove.Goals as goal

pub returns : goal.returns
returns c =
    let next = c.remove-next.ensures.value ∙ link_found c.self.inside.follows c.args.id c.self.invariant.0 in
    let lead = c.remove-lead.ensures.value ∙ link_found c.self.inside.leads c.args.id c.self.invariant.1 in
    let there = links_removed c.self.inside.follows c.remove-next.new.self c.remove_link.new.links c.args.id _ _ c.self.invariant.0 c.remove-next.ensures.ordered c.remove-next.ensures.updates.0 c.remove_link.ensures.left lead in
    let back = links_removed c.self.inside.leads c.remove-lead.new.self c.remove_link-2.new.links c.args.id _ _ c.self.invariant.1 c.remove-lead.ensures.ordered c.remove-lead.ensures.updates.0 c.remove_link-2.ensures.left next in
    (λ i. record { follows = there i; leads = back i }) ∙ ap (λ (f : FollowOns). without_number f c.args.id) c.self.view_is
