use Rattle.std.proofs.Common.{◌∙◌, ap, sym}
use Rattle.std.specs.FinMap as map
use Rattle.std.specs.Ordering.{nat_cmp}
use Rattle.crew_flights.specs.FollowOns.{FollowOns}
use Rattle.crew_flights.proofs.Maps.{entries_seen}
use Rattle.crew_flights.proofs.follow_ons.FollowOns.iter.Goals as goal

pub returns-clause-held : goal.returns-clause-held
returns-clause-held c = c.iter.ensures.rest ∙ sym (entries_seen nat_cmp _ c.self.invariant.0) ∙ ap (λ (f : FollowOns). map.entries f.follows) c.self.view_is
