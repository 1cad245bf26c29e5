use Rattle.std.proofs.Common.{◌∙◌, rules}
use Rattle.std.proofs.lemmas.List.{take_all, take_more}
use Rattle.crew_pairing.proofs.key.Walk.copy.Goals as goal

pub loop-key-preserved : goal.loop-key-preserved
loop-key-preserved c =
    let more = take_more c.deref-key-items.result.now c.loop-key.key-index c.key-item.result c.loop-key-test.true in
    search rules

pub returns : goal.returns
returns c =
    c.loop-key.invariant ∙ (take_all c.loop-key.key-index c.deref-key-items.result.now c.loop-key-test.false ∙ (c.deref-key-items.ensures.value ∙ c.self.view_is))
