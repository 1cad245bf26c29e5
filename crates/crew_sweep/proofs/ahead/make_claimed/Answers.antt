use Rattle.std.proofs.Common.{◌<◌, arith, get_or, length}
use Rattle.crew_sweep.specs.Machinery.Lanes.{IsMadeAt}
use Rattle.crew_sweep.specs.Machinery.Passing.{IsSealed}
use Rattle.crew_sweep.proofs.Listing.{member-push}
use Rattle.crew_sweep.proofs.MadeAhead.{each-at}
use Rattle.crew_sweep.proofs.ahead.make_claimed.Goals as goal

pub loop-preserved : goal.loop-preserved
loop-preserved c =
    let g = c.args.ground.now in
    let p = c.args.passed.now in
    let net = g.net.now in
    let index = c.in-Some.index in
    let below = c.in-Some.ensures in
    let same = c.requires.claims in
    let within : index < length c.args.places.now = omega (arith, below, same) in
    let there = each-at (λ k. (k < length net.arrivals) × IsSealed net (length p.pools) k) c.args.places.now index 0 within c.requires.sealed in
    let one : IsMadeAt g p (record { place = get_or c.args.places.now index 0; print = c.print_of-print.result; pool = c.in_ok-pool.pool }) = record { within = there.0; is_sealed = there.1; pool = c.in_ok-pool.ensures } in
    member-push (IsMadeAt g p) c.loop.made.items c.push.new.self.items _ c.in_ok-push.ensures.items c.loop.invariant one
