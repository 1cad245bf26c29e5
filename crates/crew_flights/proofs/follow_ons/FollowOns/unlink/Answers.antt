use Rattle.std.proofs.Common.{◌∙◌, ap}
use Rattle.crew_flights.specs.FollowOns.{FollowOns, unlinked, without_link}
use Rattle.crew_flights.proofs.Linked.{link_found, link_removed, links}
use Rattle.crew_flights.proofs.follow_ons.FollowOns.unlink.Goals as goal

pub returns : goal.returns
returns c =
    let out = link_removed c.self.inside.follows c.remove-after.new.self c.args.before c.self.invariant.0 c.remove-after.ensures.ordered c.remove-after.ensures.updates.0 in
    let named = c.remove-after.ensures.value ∙ link_found c.self.inside.follows c.args.before c.self.invariant.0 in
    let back = c.remove_link.ensures.left ∙ ap (without_link (links c.self.inside.leads)) named in
    (λ i. record { follows = out i; leads = back i }) ∙ ap (λ (f : FollowOns). unlinked f c.args.before) c.self.view_is
