use Rattle.std.proofs.Common.{◌++◌, ◌∷◌, [], ◌∙◌, ap, rules}
use Rattle.std.proofs.lemmas.List.{take_all, take_more}
use Rattle.crew_audit.proofs.chain.followed_by.Goals as goal

pub loop-duty-preserved : goal.loop-duty-preserved
loop-duty-preserved c =
    let more = take_more c.args.before.now c.loop-duty.duty-index c.duty-item.result c.loop-duty-test.true in
    search rules

pub returns : goal.returns
returns c =
    c.in_ok-push-2.ensures.items
    ∙ ap (λ ds. ds ++ c.args.next ∷ []) (c.loop-duty.invariant ∙ take_all c.loop-duty.duty-index c.args.before.now c.loop-duty-test.false)
