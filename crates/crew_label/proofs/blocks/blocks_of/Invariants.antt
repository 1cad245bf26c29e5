use Rattle.std.proofs.Common.{take}
use Rattle.crew_resource.specs.Members.{Member}
use Rattle.crew_label.specs.Machinery.Indexes.{IsHeld, IsPlaced, entries_from}
use Rattle.crew_label.specs.declared.blocks.Entry.{Entry}
use Rattle.crew_label.proofs.blocks.blocks_of.Given as goal

abbrev pub invariant-loop-part : goal.invariant-loop-part
invariant-loop-part g l =
    (e : Entry) → Member (entries_from (λ s. s.marks.now) 0 l.list) e → IsPlaced (take l.part-index l.parts) e.place → IsHeld l.blocks.items e
