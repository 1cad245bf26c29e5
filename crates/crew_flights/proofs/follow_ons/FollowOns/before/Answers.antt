use Rattle.std.proofs.Common.{◌∙◌, ap}
use Rattle.std.specs.FinMap as map
use Rattle.crew_flights.specs.FollowOns.{FollowOns}
use Rattle.crew_flights.proofs.Linked.{link_found}
use Rattle.crew_flights.proofs.follow_ons.FollowOns.before.Goals as goal

pub returns : goal.returns
returns c = c.copied.ensures ∙ c.get.ensures.value ∙ link_found c.self.inside.leads c.args.after c.self.invariant.1 ∙ ap (λ (f : FollowOns). map.get f.leads c.args.after) c.self.view_is
