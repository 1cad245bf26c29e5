use Rattle.std.proofs.Common.{◌≡◌, map, not, vec_capacity}
use Rattle.std.specs.List.{list_any}
use Rattle.std.proofs.lemmas.List.Filters.{FiltersInPlace}
use Rattle.crew_pool.proofs.labels.drop_reached.Given as goal

-- the marks are of the labels, and what is kept of the labels so far stands in front
abbrev pub invariant-loop-place : goal.invariant-loop-place
invariant-loop-place g l = record {
  marked : l.marks.rows ≡ map (λ e. g.R.Marked.marks_of e.0) l.labels.items;
  kept : FiltersInPlace (λ e. not (list_any (λ j. g.R.Resource.below j.0 e.0) l.joins)) l.initial.labels.items l.labels.items l.kept l.place;
  label_room : vec_capacity l.labels ≡ vec_capacity l.fn.labels;
  mark_room : l.marks.room ≡ l.fn.marks.room;
}
