use Rattle.std.proofs.Common.{◌≡◌, true, take}
use Rattle.crew_resource.specs.Members.{Member}
use Rattle.crew_label.specs.Machinery.Marks.{are_at_most}
use Rattle.crew_label.specs.declared.blocks.Entry.{Entry}
use Rattle.crew_label.proofs.blocks.least_of.Given as goal

abbrev pub invariant-loop-entry : goal.invariant-loop-entry
invariant-loop-entry l =
    (e : Entry) → Member (take l.entry-index l.entries) e → are_at_most l.least e.marks ≡ true
