use Rattle.crew_resource.specs.Members.{Member}
use Rattle.crew_label.specs.Machinery.Indexes.{IsGrouped, IsPlaced, entries_from}
use Rattle.crew_label.specs.declared.blocks.Entry.{Entry}
use Rattle.crew_label.proofs.index.groups_of.Given as goal

abbrev pub invariant-loop-part : goal.invariant-loop-part
invariant-loop-part g l =
    (e : Entry) → Member (entries_from (λ s. s.marks.now) 0 l.list) e → IsPlaced l.yielded e.place → IsGrouped l.groups.items e
