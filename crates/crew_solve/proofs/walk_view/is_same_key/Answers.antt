use Rattle.std.proofs.Common.{◌∙◌, sym}
use Rattle.crew_sweep.proofs.crew_step_lemmas.Sames.{key-decides}
use Rattle.crew_solve.proofs.walk_view.is_same_key.Goals as goal

pub returns : goal.returns
returns c = (λ t. (key-decides c.args.one.now c.args.other.now).0 (sym c.eq.ensures ∙ t), λ e. c.eq.ensures ∙ (key-decides c.args.one.now c.args.other.now).1 e)
