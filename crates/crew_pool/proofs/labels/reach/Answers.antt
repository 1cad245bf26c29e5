use Rattle.std.proofs.Common.{◌∙◌, map, refl, sym}
use Rattle.crew_pool.specs.declared.label_walk.LabelWalk.{LabelWalk}
use Rattle.crew_pool.proofs.LabelLemmas.{found_any, none-found}
use Rattle.crew_pool.proofs.NextLemmas.{none_at_all}
use Rattle.crew_pool.proofs.labels.reach.Goals as goal

pub returns-then-are_at_most : goal.returns-then-are_at_most
returns-then-are_at_most g c =
    let hits = λ (j : g.row.R-Value.Denot × LabelWalk). g.R.Resource.below j.0 c.args.value.now in
    sym (found_any hits c.args.joins.now c.first_at_most.result c.is_some.result c.first_at_most.ensures (sym c.is_some.ensures))

pub returns-else-are_at_most : goal.returns-else-are_at_most
returns-else-are_at_most g c =
    let value = c.args.value.now in
    let joins = c.args.joins.now in
    let marks_of = λ (e : g.row.R-Value.Denot × LabelWalk). g.R.Marked.marks_of e.0 in
    let hits = λ (j : g.row.R-Value.Denot × LabelWalk). g.R.Resource.below j.0 value in
    let none = none_at_all marks_of hits c.args.marks.now (g.R.Marked.marks_of value) c.requires.marks (λ x. g.met.R.Marked.marks_rise x.0 value)
    (map marks_of joins) joins joins refl refl c.args.least.now c.requires.least (sym c.are_at_most.ensures ∙ c.if-are_at_most.false)
    in
    c.if-are_at_most.false ∙ sym (found_any hits joins _ _ (none-found marks_of hits joins none) refl)
