use Rattle.std.proofs.Common.{◌∙◌}
use Rattle.crew_flights.proofs.Linked.{links_again}
use Rattle.crew_flights.proofs.follow_ons.FollowOns.copy.Goals as goal

pub returns : goal.returns
returns c =
    let there = links_again c.self.inside.follows c.in_ok-entries_again.field-0 c.self.invariant.0 c.in_ok-entries_again.ensures in
    let back = links_again c.self.inside.leads c.in_ok-entries_again-2.field-0 c.self.invariant.1 c.in_ok-entries_again-2.ensures in
    (λ i. record { follows = there i; leads = back i }) ∙ c.self.view_is
