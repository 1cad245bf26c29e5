use Rattle.std.proofs.Common.{◌∙◌, ap, sym}
use Rattle.std.specs.FinMap as map
use Rattle.std.specs.Ordering.{nat_cmp}
use Rattle.crew_flights.specs.FollowOns.{FollowOns}
use Rattle.crew_flights.proofs.Maps.{len_seen}
use Rattle.crew_flights.proofs.follow_ons.FollowOns.len.Goals as goal

pub returns : goal.returns
returns c = c.len.ensures.len ∙ sym (len_seen nat_cmp _ c.self.invariant.0) ∙ ap (λ (f : FollowOns). map.len f.follows) c.self.view_is
