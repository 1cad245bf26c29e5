use Rattle.crew_pool.proofs.LabelLemmas.{swapped_in_step}
use Rattle.crew_pool.proofs.labels.bring_forward.Goals as goal

pub returns-then-to-place-clause-marked : goal.returns-then-to-place-clause-marked
returns-then-to-place-clause-marked g c =
    swapped_in_step (λ e. g.R.Marked.marks_of e.0) c.args.labels.now.items c.swap.new.self.items c.args.marks.now.rows c.swap-then-to-place.new.self.rows c.args.to c.args.place c.requires.marked c.swap.ensures.items c.swap-then-to-place.ensures.rows
