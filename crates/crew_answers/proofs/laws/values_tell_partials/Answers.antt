use Rattle.crew_answers.proofs.LongNodes.{tells}
use Rattle.crew_answers.proofs.laws.values_tell_partials.Goals as goal

pub returns-clause-value : goal.returns-clause-value
returns-clause-value c = λ s t base price first others range sound dated p.
    let k = tells s t base price range sound dated in
    let v = k.value first others p in
    (v.0, v.1, (k.partial first others v.0 p.legal p.leaves p.rested v.1).1)

pub returns-clause-partial : goal.returns-clause-partial
returns-clause-partial c = λ s t base price first others v range sound dated. (tells s t base price range sound dated).partial first others v

pub returns-clause-at_most : goal.returns-clause-at_most
returns-clause-at_most c = λ s t base price first others other_first other_others u v range sound dated.
    (tells s t base price range sound dated).at_most first others other_first other_others u v
