use Rattle.std.proofs.Common.{◌∙◌, sym}
use Rattle.crew_vector.proofs.Orders.{code-itself, same-code}
use Rattle.crew_step.proofs.same.is_same_airport.Goals as goal

pub returns : goal.returns
returns c = (λ t. same-code c.args.a c.args.b (sym c.eq.ensures ∙ t), λ e. c.eq.ensures ∙ code-itself c.args.a c.args.b e)
