use Rattle.std.proofs.Common.{List, sym, subst}
use Rattle.crew_resource.specs.Members.{Member}
use Rattle.crew_label.specs.declared.blocks.Block.{Block}
use Rattle.crew_label.specs.declared.blocks.Entry.{Entry}
use Rattle.crew_label.proofs.Held.{held_last, held_more}
use Rattle.crew_label.proofs.blocks.push_block.Goals as goal

pub returns-clause-held : goal.returns-clause-held
returns-clause-held g c e m h =
    let b : Block = record { least = c.least_of-least.result; entries = c.in_ok-entries.entries } in
    let n = c.in_ok-entries.ensures e m h in
    held_last c.args.blocks.now.items c.push.new.self.items b e c.in_ok-push.ensures.items
    (c.least_of-least.ensures e (subst (λ (es : List Entry). Member es e) (sym c.deref.ensures.value) n)) n

pub returns-clause-stays : goal.returns-clause-stays
returns-clause-stays g c e k =
    let b : Block = record { least = c.least_of-least.result; entries = c.in_ok-entries.entries } in
    held_more c.args.blocks.now.items c.push.new.self.items b e c.in_ok-push.ensures.items k
