use Rattle.std.proofs.Common.{◌+◌, [], ◌∷◌, ◌++◌, take, sym, ◌∙◌, ap}
use Rattle.std.proofs.lemmas.List.{take_more}
use Rattle.crew_label.specs.declared.blocks.Block.{Block}
use Rattle.crew_label.proofs.Held.{least_more}
use Rattle.crew_label.proofs.blocks.least_of_blocks.Goals as goal

pub loop-block-preserved : goal.loop-block-preserved
loop-block-preserved c =
    let i = c.loop-block.block-index in
    let bs = c.args.blocks.now in
    let b = c.block-item.result in
    least_more (λ (x : Block). x.least) (take i bs) (take (i + 1) bs) b c.loop-block.least c.lesser-least.result
    (take_more bs i b c.loop-block-test.true ∙ ap (λ (z : Block). take i bs ++ z ∷ []) (sym c.block-item.is))
    c.lesser-least.ensures.first c.lesser-least.ensures.second c.loop-block.invariant
