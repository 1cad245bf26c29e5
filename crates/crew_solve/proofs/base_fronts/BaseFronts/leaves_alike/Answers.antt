use Rattle.std.proofs.Common.{subst}
use Rattle.crew_solve.proofs.SameLabels.{HaveSameAt, show-same}
use Rattle.crew_sweep.specs.Sweeps.{BaseSweep}
use Rattle.crew_solve.proofs.base_fronts.BaseFronts.leaves_alike.Goals as goal

pub returns : goal.returns
returns c = λ t same price d leaves.
    let a = c.args.self.now in
    let b = c.args.other.now in
    let duty = c.args.duty.now in
    let own = subst (λ (x : BaseSweep). HaveSameAt x c.sweep-2.result.now duty) c.sweep.ensures.sweep (c.are_same_labels.ensures t) in
    show-same a b duty d (subst (λ (x : BaseSweep). HaveSameAt a x duty) c.sweep-2.ensures.sweep own) same price leaves
