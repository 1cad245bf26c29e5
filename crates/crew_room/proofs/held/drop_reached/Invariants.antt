use Rattle.std.proofs.Common.{◌≡◌, map, not, vec_capacity}
use Rattle.std.specs.List.{list_any}
use Rattle.std.proofs.lemmas.List.Filters.{FiltersInPlace}
use Rattle.crew_label.specs.Pools.{stands_label}
use Rattle.crew_label.specs.declared.label.Label.{Label}
use Rattle.crew_room.proofs.held.drop_reached.Given as goal

-- the marks are of the labels, and what is kept of the labels so far stands in front
abbrev pub invariant-loop-place : goal.invariant-loop-place
invariant-loop-place g l = record {
  marked : l.marks.rows ≡ map (λ (e : Label g.row.R-Value.Denot). g.R.Glanced.glance_of e.value) l.labels.items;
  kept : FiltersInPlace (λ (e : Label g.row.R-Value.Denot). not (list_any (λ (j : Label g.row.R-Value.Denot). stands_label g.R.Resource.below g.R.Forgets.same_sums (g.T.Trails.trail l.trails) j e) l.joins)) l.initial.labels.items l.labels.items l.kept l.place;
  label_room : vec_capacity l.labels ≡ vec_capacity l.fn.labels;
  mark_room : l.marks.room ≡ l.fn.marks.room;
}
