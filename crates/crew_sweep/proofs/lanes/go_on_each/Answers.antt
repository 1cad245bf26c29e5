use Rattle.crew_sweep.specs.Machinery.Lanes.{IsLane}
use Rattle.crew_sweep.proofs.Listing.{member-next, member-push}
use Rattle.crew_sweep.proofs.lanes.go_on_each.Goals as goal

pub go_on-requires-clause-lane : goal.go_on-requires-clause-lane
go_on-requires-clause-lane c =
    (member-next (IsLane c.args.ground.now.net.now c.args.passed.now.walks c.args.arrivals.now.made.items c.args.arrivals.now.pools.items) _ _ _ c.in-Some.ensures.steps.0 c.loop-lane.invariant.1).0

pub loop-lane-preserved : goal.loop-lane-preserved
loop-lane-preserved c =
    let Is = IsLane c.args.ground.now.net.now c.args.passed.now.walks c.args.arrivals.now.made.items c.args.arrivals.now.pools.items in
    let inv = c.loop-lane.invariant in (
      member-push Is c.loop-lane.gone.items c.push.new.self.items c.in_ok-go_on.field-0 c.in_ok-push.ensures.items inv.0 c.in_ok-go_on.ensures,
      (member-next Is _ _ _ c.in-Some.ensures.steps.0 inv.1).1,
    )
