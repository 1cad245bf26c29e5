use Rattle.std.proofs.Common.{take}
use Rattle.crew_resource.specs.Members.{Member}
use Rattle.crew_label.specs.Machinery.Indexes.{entries_from}
use Rattle.crew_label.specs.declared.blocks.Entry.{Entry}
use Rattle.crew_label.proofs.blocks.entries_at.Given as goal

abbrev pub invariant-loop-place : goal.invariant-loop-place
invariant-loop-place g l =
    (e : Entry) → Member (entries_from (λ s. s.marks.now) 0 l.list) e → Member (take l.place-index l.places) e.place → Member l.entries.items e
