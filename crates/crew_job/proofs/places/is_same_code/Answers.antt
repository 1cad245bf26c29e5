use Rattle.std.proofs.Common.{◌∙◌, sym}
use Rattle.crew_version.proofs.crew_vector_lemmas.Orders.{code-itself, same-code}
use Rattle.crew_job.proofs.places.is_same_code.Goals as goal

pub returns : goal.returns
returns c = (λ t. same-code c.args.one c.args.other (sym c.eq.ensures ∙ t), λ e. c.eq.ensures ∙ code-itself c.args.one c.args.other e)
