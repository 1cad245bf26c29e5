use Rattle.crew_label.specs.declared.label.Label.{Label}
use Rattle.crew_pool.proofs.LabelLemmas.{swapped_in_step}
use Rattle.crew_room.proofs.held.Held.swap.Goals as goal

pub invariant_of-self : goal.invariant_of-self
invariant_of-self g c =
    swapped_in_step (λ (l : Label g.row.R-Value.Denot). g.R.Glanced.glance_of l.value) c.self.inside.labels.items c.swap.new.self.items c.self.inside.marks.rows c.swap-2.new.self.rows c.args.a c.args.b c.self.invariant c.swap.ensures.items c.swap-2.ensures.rows
