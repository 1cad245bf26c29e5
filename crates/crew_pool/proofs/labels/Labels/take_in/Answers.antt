use Rattle.crew_pool.proofs.LabelLemmas.{none_joins}
use Rattle.crew_pool.proofs.labels.Labels.take_in.Goals as goal

pub returns-then-is_empty-clause-ok : goal.returns-then-is_empty-clause-ok
returns-then-is_empty-clause-ok g c = none_joins (λ l e. g.R.Resource.below l.0 e.0) c.args.self.now c.args.joins.now (c.is_empty.ensures.0 (search))
