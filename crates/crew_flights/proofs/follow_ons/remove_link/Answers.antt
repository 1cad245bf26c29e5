use Rattle.std.proofs.Common.{◌∙◌, ap, sym}
use Rattle.crew_flights.specs.FollowOns.{without_link}
use Rattle.crew_flights.proofs.Linked.{link_removed, links}
use Rattle.crew_flights.proofs.follow_ons.remove_link.Goals as goal

pub returns-in-Some-clause-left : goal.returns-in-Some-clause-left
returns-in-Some-clause-left c =
    link_removed c.args.links.now c.remove.new.self c.in-Some.id c.requires c.remove.ensures.ordered c.remove.ensures.updates.0
    ∙ ap (without_link (links c.args.links.now)) (sym c.in-Some.is)
