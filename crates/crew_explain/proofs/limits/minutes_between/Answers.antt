use Rattle.std.proofs.Common.{of_z, to_z, w64}
use Rattle.crew_history.specs.Limits.{fdp_between}
use Rattle.crew_explain.proofs.ReadWindows.{minutes-on}
use Rattle.crew_explain.proofs.limits.minutes_between.Goals as goal

pub loop-duty-preserved : goal.loop-duty-preserved
loop-duty-preserved c =
    let v = c.loop-duty.invariant in
    let own = c.fdp_between-minutes.ensures in
    let sum = minutes-on (fdp_between (to_z w64 (of_z w64 c.args.from)) (to_z w64 (of_z w64 c.args.to))) c.args.duties.now c.loop-duty.duty-index c.duty-item.result (to_z w64 c.loop-duty.minutes-bits)
    c.fdp_between-minutes.result own.value v.so_far v.least v.most own.bound.0 own.bound.1 c.loop-duty-test.true c.duty-item.is c.requires.few in
    record { so_far = sum.all; least = sum.least; most = sum.most }
