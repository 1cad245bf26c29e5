use Rattle.crew_label.specs.Pools.{stands_label}
use Rattle.crew_label.specs.declared.label.Label.{Label}
use Rattle.crew_pool.proofs.NextLemmas.{found_here, goes_on, none_left}
use Rattle.crew_room.proofs.Standing.{stands_below, there_in}
use Rattle.crew_room.proofs.held.Held.first_standing.Goals as goal

pub may_stand-requires-clause-first : goal.may_stand-requires-clause-first
may_stand-requires-clause-first g c =
    c.requires.held c.index.result.now
    (there_in (λ (e : Label g.row.R-Value.Denot). g.R.Glanced.glance_of e.value) c.self.inside.marks.rows c.self.inside.labels.items c.args.self.now c.self.invariant c.self.view_is c.in-Some.place c.index.result.now c.in-Some.ensures.there c.index.ensures)

pub returns-then-may_stand : goal.returns-then-may_stand
returns-then-may_stand g c =
    let label = c.args.label.now in
    let trail = g.T.Trails.trail c.args.trails.now in
    found_here (λ (e : Label g.row.R-Value.Denot). g.R.Glanced.glance_of e.value) (λ (e : Label g.row.R-Value.Denot). stands_label g.R.Resource.below g.R.Forgets.same_sums trail e label) c.args.marks.now (g.R.Glanced.glance_of label.value) c.requires.marks
    (λ x t. g.met.R.Glanced.glances_rise x.value label.value (stands_below g.R.Resource.below g.R.Forgets.same_sums trail x label t))
    c.self.inside.marks.rows c.self.inside.labels.items c.args.self.now c.self.invariant c.self.view_is
    c.loop-place.from c.in-Some.place c.index.result.now c.may_stand.result c.loop-place.invariant.none c.in-Some.ensures c.index.ensures c.may_stand.ensures c.if-may_stand.true

pub loop-place-preserved : goal.loop-place-preserved
loop-place-preserved g c =
    let label = c.args.label.now in
    let trail = g.T.Trails.trail c.args.trails.now in
    let on = goes_on (λ (e : Label g.row.R-Value.Denot). g.R.Glanced.glance_of e.value) (λ (e : Label g.row.R-Value.Denot). stands_label g.R.Resource.below g.R.Forgets.same_sums trail e label) c.args.marks.now (g.R.Glanced.glance_of label.value) c.requires.marks
    (λ x t. g.met.R.Glanced.glances_rise x.value label.value (stands_below g.R.Resource.below g.R.Forgets.same_sums trail x label t))
    c.self.inside.marks.rows c.self.inside.labels.items c.args.self.now c.self.invariant c.self.view_is
    c.loop-place.from c.in-Some.place c.index.result.now c.may_stand.result c.loop-place.invariant.none c.in-Some.ensures c.index.ensures c.may_stand.ensures c.if-may_stand.false in
    record { within = on.0; none = on.1 }

pub returns : goal.returns
returns g c =
    let label = c.args.label.now in
    let trail = g.T.Trails.trail c.args.trails.now in
    none_left (λ (e : Label g.row.R-Value.Denot). g.R.Glanced.glance_of e.value) (λ (e : Label g.row.R-Value.Denot). stands_label g.R.Resource.below g.R.Forgets.same_sums trail e label) c.args.marks.now (g.R.Glanced.glance_of label.value) c.requires.marks
    (λ x t. g.met.R.Glanced.glances_rise x.value label.value (stands_below g.R.Resource.below g.R.Forgets.same_sums trail x label t))
    c.self.inside.marks.rows c.self.inside.labels.items c.args.self.now c.self.invariant c.self.view_is
    c.loop-place.from c.loop-place.invariant.none c.in_default.ensures
