use Rattle.std.proofs.Common.{◌∙◌, ap, arith, map, not, sym, take}
use Rattle.std.proofs.lemmas.List.{take-map}
use Rattle.std.proofs.lemmas.List.Filters.{FiltersInPlace-more_no, FiltersInPlace-more_swap}
use Rattle.crew_label.specs.declared.label.Label.{Label}
use Rattle.crew_room.proofs.Standing.{still_there}
use Rattle.crew_room.proofs.held.drop_reached.Goals as goal
use Rattle.crew_room.proofs.held.drop_reached.Goals.{then-not-reach, else-not-reach}

pub reach-requires-clause-label : goal.reach-requires-clause-label
reach-requires-clause-label g c =
    c.requires.held c.index.result.now (still_there c.loop-place.invariant.kept (omega arith) c.index.ensures)

pub loop-place-preserved : goal.loop-place-preserved
loop-place-preserved g c =
    elim c.if-not-reach.branch [
      | then-not-reach w ↦ rw (w.labels-is, w.marks-is, w.kept-is) (record {
        marked = w.bring_forward.ensures.marked;
        kept = FiltersInPlace-more_swap c.loop-place.invariant.kept (omega arith) (ap not (sym c.reach.ensures ∙ w.if-not-reach.true)) c.index.ensures w.bring_forward.ensures.moved;
        label_room = w.bring_forward.ensures.room.0 ∙ c.loop-place.invariant.label_room;
        mark_room = w.bring_forward.ensures.room.1 ∙ c.loop-place.invariant.mark_room;
      })
      | else-not-reach w ↦ rw (w.labels-is, w.marks-is, w.kept-is) (record {
        marked = c.loop-place.invariant.marked;
        kept = FiltersInPlace-more_no c.loop-place.invariant.kept (omega arith) (ap not (sym c.reach.ensures ∙ w.if-not-reach.false)) c.index.ensures;
        label_room = c.loop-place.invariant.label_room;
        mark_room = c.loop-place.invariant.mark_room;
      })
    ]

pub returns-clause-marked : goal.returns-clause-marked
returns-clause-marked g c =
    let f = λ (e : Label g.row.R-Value.Denot). g.R.Glanced.glance_of e.value in
    c.truncate-2.ensures.rows ∙ (ap (take c.loop-place.kept) c.loop-place.invariant.marked ∙ (take-map f c.loop-place.kept c.loop-place.labels.items ∙ ap (map f) (sym c.truncate.ensures.items)))
