use Rattle.std.specs.Ordering.{nat_cmp}
use Rattle.crew_flights.proofs.Maps.{seen_empty}
use Rattle.crew_flights.proofs.follow_ons.FollowOns.new.Goals as goal

pub returns : goal.returns
returns c = λ i. record { follows = seen_empty nat_cmp c.new.result.entries c.new.ensures.empty i; leads = seen_empty nat_cmp c.new-2.result.entries c.new-2.ensures.empty i }
