use Rattle.std.proofs.Common.{◌∙◌, map, refl, sym}
use Rattle.crew_label.specs.Pools.{stands_label}
use Rattle.crew_label.specs.declared.label.Label.{Label}
use Rattle.crew_pool.proofs.LabelLemmas.{found_any, none-found}
use Rattle.crew_pool.proofs.NextLemmas.{none_at_all}
use Rattle.crew_room.proofs.Standing.{stands_below}
use Rattle.crew_room.proofs.held.reach.Goals as goal

pub returns-then-are_at_most : goal.returns-then-are_at_most
returns-then-are_at_most g c =
    let hits = λ (j : Label g.row.R-Value.Denot). stands_label g.R.Resource.below g.R.Forgets.same_sums (g.T.Trails.trail c.args.trails.now) j c.args.label.now in
    sym (found_any hits c.args.joins.now c.first_standing.result c.is_some.result c.first_standing.ensures (sym c.is_some.ensures))

pub returns-else-are_at_most : goal.returns-else-are_at_most
returns-else-are_at_most g c =
    let label = c.args.label.now in
    let trail = g.T.Trails.trail c.args.trails.now in
    let joins = c.args.joins.now in
    let marks_of = λ (e : Label g.row.R-Value.Denot). g.R.Glanced.glance_of e.value in
    let hits = λ (j : Label g.row.R-Value.Denot). stands_label g.R.Resource.below g.R.Forgets.same_sums trail j label in
    let none = none_at_all marks_of hits c.args.marks.now (g.R.Glanced.glance_of label.value) c.requires.marks
    (λ x t. g.met.R.Glanced.glances_rise x.value label.value (stands_below g.R.Resource.below g.R.Forgets.same_sums trail x label t))
    (map marks_of joins) joins joins refl refl c.args.least.now c.requires.least (sym c.are_at_most.ensures ∙ c.if-are_at_most.false)
    in
    c.if-are_at_most.false ∙ sym (found_any hits joins _ _ (none-found marks_of hits joins none) refl)
