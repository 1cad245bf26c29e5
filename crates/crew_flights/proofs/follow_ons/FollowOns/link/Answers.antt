use Rattle.std.proofs.Common.{◌∙◌, ◌≡◌, ap}
use Rattle.std.specs.FinMap as map
use Rattle.crew_flights.specs.FollowOns.{FollowOns, linked}
use Rattle.crew_flights.proofs.Linked.{link_put, link_undone, links}
use Rattle.crew_flights.proofs.follow_ons.FollowOns.link.Goals as goal

pub returns-in-Ok-clause-ok : goal.returns-in-Ok-clause-ok
returns-in-Ok-clause-ok c =
    let there = link_put c.self.inside.follows c.insert.new.self c.args.before c.args.after c.self.invariant.0 c.in_ok-insert.ensures.ordered c.in_ok-insert.ensures.updates.0 in
    let back = link_put c.self.inside.leads c.insert-2.new.self c.args.after c.args.before c.self.invariant.1 c.in-Ok.ensures.ordered c.in-Ok.ensures.updates.0 in
    (λ i. record { follows = there i; leads = back i }) ∙ ap (λ (f : FollowOns). linked f c.args.before c.args.after) c.self.view_is

pub returns-in-Err-clause-err : goal.returns-in-Err-clause-err
returns-in-Err-clause-err c =
    let free = ap (λ (f : FollowOns). map.get f.follows c.args.before) c.self.view_is ∙ c.requires in
    let there = link_undone c.self.inside.follows c.insert.new.self c.remove.new.self c.args.before c.args.after c.self.invariant.0 c.in_ok-insert.ensures.ordered c.remove.ensures.ordered c.in_ok-insert.ensures.updates.0 c.remove.ensures.updates.0 free in
    let back : links c.insert-2.new.self ≡ links c.self.inside.leads = ap (λ es. map.from_sorted es) c.in-Err.ensures.err in
    (λ i. record { follows = there i; leads = back i }) ∙ c.self.view_is
