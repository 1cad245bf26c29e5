use Rattle.std.proofs.Common.{IfSome, Option, ap, arith, length, subst, sym}
use Rattle.crew_resource.proofs.Members.{Member-get_or}
use Rattle.crew_sweep.specs.Machinery.Ahead.{IsAhead}
use Rattle.crew_sweep.specs.Machinery.Lanes.{IsLane}
use Rattle.crew_sweep.specs.declared.windows.Waiting.{Waiting}
use Rattle.crew_sweep.proofs.Listing.{member-push}
use Rattle.crew_sweep.proofs.lanes.Lane.go_on.Goals as goal

pub waiting_at-requires-clause-position : goal.waiting_at-requires-clause-position
waiting_at-requires-clause-position c =
    let positions = c.loop-index.self.positions.items in
    let position = c.index-position.result.now in
    let test = c.loop-index-test.true in
    let end = c.len-index-end.ensures in
    let same = ap (λ v. length v.items) c.loop-index.invariant.1 in
    c.loop-index.invariant.0.within position (Member-get_or positions c.loop-index.index position (omega (arith, test, end, same)) (sym c.index-position.ensures))

pub loop-index-preserved : goal.loop-index-preserved
loop-index-preserved c =
    let net = c.args.ground.now.net.now in
    let walks = c.args.passed.now.walks in
    let made = c.args.arrivals.now.made.items in
    let held = c.args.arrivals.now.pools.items in
    let inv = c.loop-index.invariant.0 in
    let next = subst (λ (o : Option Waiting). IfSome o (IsAhead net walks made held)) c.in-Some.is c.in_ok-next.ensures.ahead in
    let lane : IsLane net walks made held (record c.loop-index.self { slide = c.waiting_at.new.self; waiting = c.push.new.self }) = record {
      over = c.in_ok-next.ensures.over;
      within = inv.within;
      ahead = member-push (IsAhead net walks made held) c.loop-index.self.waiting.items c.push.new.self.items c.in-Some.next c.in_ok-push.ensures.items inv.ahead next;
    } in
    (lane, c.loop-index.invariant.1)
