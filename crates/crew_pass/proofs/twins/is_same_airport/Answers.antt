use Rattle.std.proofs.Common.{◌∙◌, sym}
use Rattle.crew_net.proofs.Geometry.{code-equal, equal-code}
use Rattle.crew_pass.proofs.twins.is_same_airport.Goals as goal

pub returns : goal.returns
returns c = (λ t. code-equal c.args.a c.args.b (sym c.eq.ensures ∙ t), λ e. c.eq.ensures ∙ equal-code c.args.a c.args.b e)
