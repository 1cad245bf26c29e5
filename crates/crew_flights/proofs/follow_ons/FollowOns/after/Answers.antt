use Rattle.std.proofs.Common.{◌∙◌, ap}
use Rattle.std.specs.FinMap as map
use Rattle.crew_flights.specs.FollowOns.{FollowOns}
use Rattle.crew_flights.proofs.Linked.{link_found}
use Rattle.crew_flights.proofs.follow_ons.FollowOns.after.Goals as goal

pub returns : goal.returns
returns c = c.copied.ensures ∙ c.get.ensures.value ∙ link_found c.self.inside.follows c.args.before c.self.invariant.0 ∙ ap (λ (f : FollowOns). map.get f.follows c.args.before) c.self.view_is
