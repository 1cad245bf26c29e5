use Rattle.std.proofs.Common.{arith}
use Rattle.crew_sweep.proofs.Renewed.{kept-more}
use Rattle.crew_sweep.proofs.earlier.is_kept.Goals as goal

pub loop-offset-init : goal.loop-offset-init
loop-offset-init c = λ k lt. absurd (omega (arith, lt))

pub loop-offset-preserved : goal.loop-offset-preserved
loop-offset-preserved c = kept-more c.args.twins.now c.args.changed.now c.args.alike.now c.args.now c.args.old c.loop-offset.offset c.loop-offset.invariant (c.is_as_it_was.ensures c.if-not-is_as_it_was.false)

pub returns : goal.returns
returns c = λ t. record {
  long = c.if-now-old.false;
  kept = λ k lt. c.loop-offset.invariant k (omega (arith, lt, c.loop-offset-test.false));
}
