use Rattle.crew_label.specs.declared.label.Label.{Label}
use Rattle.crew_pool.proofs.LabelLemmas.{swapped_in_step}
use Rattle.crew_room.proofs.held.bring_forward.Goals as goal

pub returns-then-to-place-clause-marked : goal.returns-then-to-place-clause-marked
returns-then-to-place-clause-marked g c =
    swapped_in_step (λ (l : Label g.row.R-Value.Denot). g.R.Glanced.glance_of l.value) c.args.labels.now.items c.swap.new.self.items c.args.marks.now.rows c.swap-then-to-place.new.self.rows c.args.to c.args.place c.requires.marked c.swap.ensures.items c.swap-then-to-place.ensures.rows
