use Rattle.std.proofs.Common.{◌∙◌, ap, min, sum}
use Rattle.std.proofs.lemmas.List.{take_all}
use Rattle.crew_duty.proofs.pieces.total_of.Goals as goal

pub returns : goal.returns
returns c = c.loop-count.invariant ∙ ap (λ ns. min (sum ns) 18_446_744_073_709_551_615) (take_all c.loop-count.count-index c.args.counts.now c.loop-count-test.false)
