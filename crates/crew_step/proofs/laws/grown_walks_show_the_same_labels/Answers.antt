use Rattle.crew_step.proofs.Grown.{all-shown-grown, counted-grown}
use Rattle.crew_step.proofs.laws.grown_walks_show_the_same_labels.Goals as goal

pub returns : goal.returns
returns c = λ count before after whole labels grown counted.
    (λ l m. counted-grown count before after whole grown l (counted l m), all-shown-grown count before after whole grown labels counted)
