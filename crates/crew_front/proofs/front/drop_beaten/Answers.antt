use Rattle.std.proofs.Common.{rules, ◌∙◌, ap, sym, refl, not, ltb, List}
use Rattle.std.specs.Prelude.{◌||◌}
use Rattle.std.proofs.lemmas.Fn.{filter_same}
use Rattle.crew_pairing.specs.Legs.{Leg}
use Rattle.crew_front.proofs.GradeLemmas.{filter_agree, filter_all, none_lesser}
use Rattle.crew_front.proofs.front.drop_beaten.Goals as goal

pub returns-then-not-any-clause-kept : goal.returns-then-not-any-clause-kept
returns-then-not-any-clause-kept g c =
    let Entry = g.row.R-Value.Denot × List (List Leg) in
    sym (filter_all (λ (e : Entry). not (g.R.Resource.below c.args.value.now e.0)) c.args.entries.now.items (λ e m. ap not (c.requires c.if-not-any.true e m)))

pub returns-clause-kept : goal.returns-clause-kept
returns-clause-kept g c =
    let Entry = g.row.R-Value.Denot × List (List Leg) in
    let below = g.R.Resource.below in
    let grade_of = g.R.Resource.grade_of in
    let v = c.args.value.now in
    let test = λ (e : Entry). ltb (grade_of e.0) c.grade-grade.result || not (below v e.0) in
    filter_same _ test _ (λ x b f' k. search rules) _ _ c.retain.ensures.filtered
    ∙ filter_agree test (λ (e : Entry). not (below v e.0)) c.args.entries.now.items
    (λ e m. none_lesser (λ (e : Entry). grade_of e.0) (λ (e : Entry). e.0) below grade_of g.met.R.Resource.grading c.grade-grade.result v c.grade-grade.ensures e refl)
