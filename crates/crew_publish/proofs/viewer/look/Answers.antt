use Rattle.std.proofs.Common.{◌∷◌, [], ◌∙◌}
use Rattle.crew_publish.proofs.Moves.{looks}
use Rattle.crew_publish.proofs.viewer.look.Goals as goal

pub enter_as-requires : goal.enter_as-requires
enter_as-requires c = looks _ _

pub returns-in-Ok-got-clause-grows : goal.returns-in-Ok-got-clause-grows
returns-in-Ok-got-clause-grows c = (c.in-Ok.ensures.1.0 ∷ [], c.leave-seat.ensures.1 ∙ c.in-Ok.ensures.1.1)

pub returns-in-Err-got-clause-grows : goal.returns-in-Err-got-clause-grows
returns-in-Err-got-clause-grows c = (c.in-Ok.ensures.1.0 ∷ [], c.leave-seat.ensures.1 ∙ c.in-Ok.ensures.1.1)
