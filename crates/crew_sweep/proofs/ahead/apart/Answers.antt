use Rattle.std.proofs.Common.{IfOk}
use Rattle.std.proofs.lemmas.Result.{IfOk-at_ok}
use Rattle.std.specs.Global.{Global}
use Rattle.std.specs.Prelude.{Vec}
use Rattle.crew_sweep.specs.Machinery.Lanes.{AreLanes, AreMadeAt, IsDone}
use Rattle.crew_sweep.specs.declared.ahead.Made.{Made}
use Rattle.crew_sweep.specs.declared.lanes.Lane.{Lane}
use Rattle.crew_sweep.proofs.Listing.{member-next, member-push}
use Rattle.crew_sweep.proofs.ahead.apart.Goals as goal

pub loop-done-preserved : goal.loop-done-preserved
loop-done-preserved c g p all =
    let inv = c.loop-done.invariant g p all in
    let next = member-next (λ done. IfOk done (IsDone g p)) _ _ _ c.in-Some.ensures.steps.0 inv.2 in
    let done = IfOk-at_ok (IsDone g p) c.in_ok-lanes.was next.0 in (
      member-push (λ (ls : Vec Lane Global). AreLanes g.net.now p.passed.walks p.arrivals.made.items p.arrivals.pools.items ls.items) _ _ _ c.in_ok-push.ensures.items inv.0 done.lanes,
      member-push (λ (ms : Vec Made Global). AreMadeAt g p.passed ms.items) _ _ _ c.in_ok-push-2.ensures.items inv.1 done.pools,
      next.1,
    )

pub returns : goal.returns
returns c g p all = let inv = c.loop-done.invariant g p all in (inv.0, inv.1)
