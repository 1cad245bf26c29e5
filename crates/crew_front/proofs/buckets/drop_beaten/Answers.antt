use Rattle.std.proofs.Common.{rules, ◌∙◌, not, ltb}
use Rattle.std.specs.Prelude.{◌||◌}
use Rattle.std.proofs.lemmas.Fn.{filter_same}
use Rattle.crew_front.proofs.GradeLemmas.{filter_agree, none_lesser}
use Rattle.crew_front.proofs.buckets.drop_beaten.Goals as goal

pub returns-clause-kept : goal.returns-clause-kept
returns-clause-kept g c =
    let below = g.R.Resource.below in
    let v = c.args.value.now in
    filter_same _ (λ x. ltb x.grade c.args.grade || not (below v x.value)) _ (λ x b f' k. search rules) _ _ c.retain.ensures.filtered
    ∙ filter_agree (λ x. ltb x.grade c.args.grade || not (below v x.value)) (λ x. not (below v x.value)) c.args.values.now.items
    (λ x m. none_lesser (λ y. y.grade) (λ y. y.value) below g.R.Resource.grade_of g.met.R.Resource.grading c.args.grade v c.requires.own x (c.requires.graded x m))
