use Rattle.std.proofs.Common.{refl}
use Rattle.crew_pairing.specs.Pairings.{last_duty}
use Rattle.crew_answers.proofs.LongListed.{values-listed}
use Rattle.crew_answers.proofs.laws.values_are_listed_as_their_vectors.Goals as goal

pub returns : goal.returns
returns c = λ s t base price first others other_first other_others u v range sound dated p q e f ends.
    values-listed s t base price range sound dated (last_duty first others) u v
    (record { first = first; others = others; partial = p; value = e; ends = refl }) (record { first = other_first; others = other_others; partial = q; value = f; ends = ends })
