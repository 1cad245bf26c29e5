use Rattle.std.proofs.Common.{◌∙◌, ap, arith, map, not, sym, take}
use Rattle.std.proofs.lemmas.List.{take-map}
use Rattle.std.proofs.lemmas.List.Filters.{FiltersInPlace-more_no, FiltersInPlace-more_swap}
use Rattle.crew_pool.specs.declared.label_walk.LabelWalk.{LabelWalk}
use Rattle.crew_pool.proofs.labels.drop_reached.Goals as goal
use Rattle.crew_pool.proofs.labels.drop_reached.Goals.{then-not-reach, else-not-reach}

pub loop-place-preserved : goal.loop-place-preserved
loop-place-preserved g c =
    let held = c.index.result.now in
    let joins = c.args.joins.now in
    let hits = λ (j : g.row.R-Value.Denot × LabelWalk). g.R.Resource.below j.0 held.0 in
    elim c.if-not-reach.branch [
      | then-not-reach w ↦ rw (w.labels-is, w.marks-is, w.kept-is) (record {
        marked = w.bring_forward.ensures.marked;
        kept = FiltersInPlace-more_swap c.loop-place.invariant.kept (omega arith) (ap not (sym c.reach.ensures ∙ w.if-not-reach.true)) c.index.ensures w.bring_forward.ensures.moved;
        label_room = w.bring_forward.ensures.room.0 ∙ c.loop-place.invariant.label_room;
        mark_room = w.bring_forward.ensures.room.1 ∙ c.loop-place.invariant.mark_room;
      })
      | else-not-reach w ↦ rw (w.labels-is, w.marks-is, w.kept-is) (record {
        marked = c.loop-place.invariant.marked;
        kept = FiltersInPlace-more_no c.loop-place.invariant.kept (omega arith) (ap not (sym c.reach.ensures ∙ w.if-not-reach.false)) c.index.ensures;
        label_room = c.loop-place.invariant.label_room;
        mark_room = c.loop-place.invariant.mark_room;
      })
    ]

pub returns-clause-marked : goal.returns-clause-marked
returns-clause-marked g c =
    let f = λ (e : g.row.R-Value.Denot × LabelWalk). g.R.Marked.marks_of e.0 in
    c.truncate-2.ensures.rows ∙ (ap (take c.loop-place.kept) c.loop-place.invariant.marked ∙ (take-map f c.loop-place.kept c.loop-place.labels.items ∙ ap (map f) (sym c.truncate.ensures.items)))
