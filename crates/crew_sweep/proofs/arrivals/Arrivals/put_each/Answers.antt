use Rattle.std.proofs.Common.{◌<◌, subst, sym}
use Rattle.crew_sweep.specs.Machinery.Lanes.{IsMadeAt}
use Rattle.crew_sweep.proofs.Listing.{member-next}
use Rattle.crew_sweep.proofs.MadeAhead.{passing-put, stayed-put}
use Rattle.crew_sweep.proofs.Slidings.{stayed-through}
use Rattle.crew_sweep.proofs.arrivals.Arrivals.put_each.Goals as goal

pub put-requires-clause-made : goal.put-requires-clause-made
put-requires-clause-made c =
    let next = member-next (IsMadeAt c.args.ground.now c.args.passed.now) _ _ _ c.in-Some.ensures.steps.0 c.loop-it.invariant.2 in
    subst (λ n. c.in-Some.it.place < n) (sym c.loop-it.invariant.0.marks) next.0.within

pub put-requires-clause-pools : goal.put-requires-clause-pools
put-requires-clause-pools c =
    let next = member-next (IsMadeAt c.args.ground.now c.args.passed.now) _ _ _ c.in-Some.ensures.steps.0 c.loop-it.invariant.2 in
    subst (λ n. c.in-Some.it.place < n) (sym c.loop-it.invariant.0.long) next.0.within

pub loop-it-preserved : goal.loop-it-preserved
loop-it-preserved c =
    let g = c.args.ground.now in
    let p = c.args.passed.now in
    let next = member-next (IsMadeAt g p) _ _ _ c.in-Some.ensures.steps.0 c.loop-it.invariant.2 in
    let it = c.in-Some.it in
    let was = c.loop-it.self in
    let now = c.put.new.self in
    let passing = c.loop-it.invariant.0 in
    let marked = subst (λ n. it.place < n) (sym passing.marks) next.0.within in (
      passing-put was.made.items was.pools.items it.place it.pool now.made.items now.pools.items c.put.ensures.kept c.put.ensures.put g.net.now g.positions.now c.requires.ground.passable g.resource p.walks p.pools next.0.within next.0.is_sealed
          next.0.pool g.base passing,
      stayed-through c.args.self.now.made.items c.args.self.now.pools.items was.made.items was.pools.items now.made.items now.pools.items c.loop-it.invariant.1
          (stayed-put was.made.items was.pools.items it.place it.pool now.made.items now.pools.items c.put.ensures.kept c.put.ensures.put marked),
      next.1,
    )
