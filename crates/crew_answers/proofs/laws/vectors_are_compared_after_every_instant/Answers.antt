use Rattle.std.proofs.Common.{◌≡◌, true, sym, subst}
use Rattle.crew_answers.specs.Dominance.{IsAtMost, is_at_most}
use Rattle.crew_answers.specs.LongVectors.{LongVector, long_vector_of}
use Rattle.crew_answers.proofs.Vectors.{at-most-from, at-most-is}
use Rattle.crew_answers.proofs.laws.vectors_are_compared_after_every_instant.Goals as goal

abbrev Says : LongVector → LongVector → Type 0
Says a b = (is_at_most a b ≡ true → IsAtMost a b) × (IsAtMost a b → is_at_most a b ≡ true)

pub returns : goal.returns
returns c = λ s price first others other_first other_others a b order other_order is other_is.
    subst (λ z. Says z b) (sym is)
    (subst (Says (long_vector_of s price first others)) (sym other_is) (
      λ t. let k = at-most-is s price first others other_first other_others order other_order t in record { sums = k.0; since_rest = k.1; history = k.2 },
      λ h. at-most-from s price first others other_first other_others order other_order h.sums h.since_rest h.history,
    ))
