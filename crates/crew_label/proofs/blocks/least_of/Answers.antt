use Rattle.std.proofs.Common.{◌+◌, get_or, take, []}
use Rattle.std.proofs.lemmas.List.{take_more}
use Rattle.crew_label.specs.declared.blocks.Entry.{Entry}
use Rattle.crew_label.proofs.Held.{least_more}
use Rattle.crew_label.proofs.blocks.least_of.Goals as goal

pub loop-entry-preserved : goal.loop-entry-preserved
loop-entry-preserved c =
    let i = c.loop-entry.entry-index in
    let es = c.args.entries.now in
    let d : Entry = record { marks = []; place = 0 } in
    least_more (λ (e : Entry). e.marks) (take i es) (take (i + 1) es) (get_or es i d) c.loop-entry.least c.lesser-least.result (take_more es i d c.loop-entry-test.true)
    c.lesser-least.ensures.first c.lesser-least.ensures.second c.loop-entry.invariant
