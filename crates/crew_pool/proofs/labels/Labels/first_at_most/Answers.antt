use Rattle.crew_pool.specs.declared.label_walk.LabelWalk.{LabelWalk}
use Rattle.crew_pool.proofs.NextLemmas.{found_here, goes_on, none_left}
use Rattle.crew_pool.proofs.labels.Labels.first_at_most.Goals as goal

pub returns-then-at_most : goal.returns-then-at_most
returns-then-at_most g c =
    let value = c.args.value.now in
    found_here (λ (e : g.row.R-Value.Denot × LabelWalk). g.R.Marked.marks_of e.0) (λ e. g.R.Resource.below e.0 value) c.args.marks.now (g.R.Marked.marks_of value) c.requires (λ x. g.met.R.Marked.marks_rise x.0 value)
    c.self.inside.marks.rows c.self.inside.labels.items c.args.self.now c.self.invariant c.self.view_is
    c.loop-place.from c.in-Some.place c.index.result.now c.at_most.result c.loop-place.invariant.none c.in-Some.ensures c.index.ensures c.at_most.ensures c.if-at_most.true

pub loop-place-preserved : goal.loop-place-preserved
loop-place-preserved g c =
    let value = c.args.value.now in
    let on = goes_on (λ (e : g.row.R-Value.Denot × LabelWalk). g.R.Marked.marks_of e.0) (λ e. g.R.Resource.below e.0 value) c.args.marks.now (g.R.Marked.marks_of value) c.requires (λ x. g.met.R.Marked.marks_rise x.0 value)
    c.self.inside.marks.rows c.self.inside.labels.items c.args.self.now c.self.invariant c.self.view_is
    c.loop-place.from c.in-Some.place c.index.result.now c.at_most.result c.loop-place.invariant.none c.in-Some.ensures c.index.ensures c.at_most.ensures c.if-at_most.false in
    record { within = on.0; none = on.1 }

pub returns : goal.returns
returns g c =
    let value = c.args.value.now in
    none_left (λ (e : g.row.R-Value.Denot × LabelWalk). g.R.Marked.marks_of e.0) (λ e. g.R.Resource.below e.0 value) c.args.marks.now (g.R.Marked.marks_of value) c.requires (λ x. g.met.R.Marked.marks_rise x.0 value)
    c.self.inside.marks.rows c.self.inside.labels.items c.args.self.now c.self.invariant c.self.view_is
    c.loop-place.from c.loop-place.invariant.none c.in_default.ensures
