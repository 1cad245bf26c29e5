use Rattle.std.proofs.Common.{◌≡◌, true, take}
use Rattle.crew_resource.specs.Members.{Member}
use Rattle.crew_label.specs.Machinery.Marks.{are_at_most}
use Rattle.crew_label.specs.declared.blocks.Block.{Block}
use Rattle.crew_label.proofs.blocks.least_of_blocks.Given as goal

abbrev pub invariant-loop-block : goal.invariant-loop-block
invariant-loop-block l =
    (b : Block) → Member (take l.block-index l.blocks) b → are_at_most l.least b.least ≡ true
