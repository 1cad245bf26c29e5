use Rattle.std.proofs.Common.{◌∙◌, List, ap, sym, subst, arith, length}
use Rattle.crew_anchor.specs.Stages.{anchored_board}
use Rattle.crew_anchor.specs.declared.resource.AnchoredResource.{AnchoredResource}
use Rattle.crew_pairing.specs.declared.vector.PairingVector.{PairingVector}
use Rattle.crew_pool.specs.Counted.{boarded_labels}
use Rattle.crew_pool.specs.declared.label_walk.LabelWalk.{LabelWalk}
use Rattle.crew_resource.specs.Members.{Member}
use Rattle.crew_solve.specs.Machinery.Lent.{boarding_at}
use Rattle.crew_solve.specs.Machinery.Homes.{resource_of}
use Rattle.crew_net.proofs.Numbers.{get-within}
use Rattle.crew_sweep.specs.Machinery.Kept.{AreKept}
use Rattle.crew_solve.proofs.Boarded.{can-board}
use Rattle.crew_solve.proofs.Entered.{are-lent, boarders-are, lent-shown}
use Rattle.crew_solve.proofs.front_view.FrontView.new.Goals as goal

pub new-view-requires-clause-can : goal.new-view-requires-clause-can
new-view-requires-clause-can c = can-board _ _ _ c.pool-pool.result.now c.args.duty.now c.pool-pool.ensures.kept c.requires.sound

pub new-view-requires-clause-duty : goal.new-view-requires-clause-duty
new-view-requires-clause-duty c = let h = get-within c.args.sweep.now.net.duties c.args.rank c.args.duty.now c.requires.duty in omega (arith, h, c.requires.fit.few)

pub invariant_of-result : goal.invariant_of-result
invariant_of-result c =
    let b = c.args.sweep.now in
    let d = c.args.duty.now in
    let kept = subst (AreKept (resource_of b) (length b.net.duties) b.walks) c.pool-pool.ensures.same c.pool-pool.ensures.kept in
    let is = boarders-are b c.args.index c.args.rank d c.resource.result.now c.pool-pool.result.now c.new-view.result c.new-view.ensures.labels c.resource.ensures c.pool-pool.ensures.same in
    record {
      lent = are-lent b c.args.index c.args.rank d c.requires.fit c.requires.duty kept c.requires.own c.new-view.result is c.iter-entries.ensures.apart;
      boards = λ l m. can-board _ _ _ c.pool-pool.result.now d c.pool-pool.ensures.kept c.requires.sound l (subst (λ (ls : List (PairingVector × LabelWalk)). Member ls l) c.as_slice.ensures.all m);
      same = c.new-view.ensures.labels ∙ (ap (λ (r : AnchoredResource). boarded_labels (λ v. anchored_board r v d) c.args.rank c.pool-pool.result.now) c.resource.ensures ∙ ap (boarding_at b d c.args.rank) (sym c.as_slice.ensures.all));
    }

pub returns : goal.returns
returns c =
    let b = c.args.sweep.now in
    let d = c.args.duty.now in
    let kept = subst (AreKept (resource_of b) (length b.net.duties) b.walks) c.pool-pool.ensures.same c.pool-pool.ensures.kept in
    let is = boarders-are b c.args.index c.args.rank d c.resource.result.now c.pool-pool.result.now c.new-view.result c.new-view.ensures.labels c.resource.ensures c.pool-pool.ensures.same in
    lent-shown b c.args.index c.args.rank d c.requires.fit c.requires.duty kept c.new-view.result is c.iter-entries.ensures.apart
