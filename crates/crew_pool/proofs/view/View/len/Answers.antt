use Rattle.std.proofs.Common.{length, ap, ◌∙◌}
use Rattle.crew_pool.proofs.view.View.len.Goals as goal

pub returns : goal.returns
returns g c = c.count_boarding.ensures c.self.inside.duty ∙ ap length c.self.view_is
