use Rattle.std.proofs.Common.{to_z, of_z, w32, List, [], ◌∷◌, ◌++◌, ℤ, map, refl, sym, ◌∙◌, ap}
use Rattle.std.proofs.lemmas.Bool.{false≢true}
use Rattle.std.proofs.lemmas.Int.{to_z-of_z}
use Rattle.crew_label.specs.declared.label.Label.{Label}
use Rattle.crew_label.proofs.Listed.{mapped_all, mapped_more}
use Rattle.crew_label.proofs.seen.marks_where.Goals as goal

pub returns-then-not-marked : goal.returns-then-not-marked
returns-then-not-marked g c t = absurd (false≢true (sym c.if-not-marked.true ∙ t))

pub loop-label-preserved : goal.loop-label-preserved
loop-label-preserved g c =
    let m = to_z w32 (of_z w32 c.args.moment) in
    mapped_more (λ (l : Label g.row.R-Value.Denot). g.R.Marked.marks_of c.args.resource.now l.value m) c.args.labels.now c.loop-label.label-index c.label-item.result
    c.loop-label.made.items c.push.new.self.items c.loop-label-test.true c.label-item.is c.loop-label.invariant
    (c.in_ok-push.ensures.items ∙ ap (λ (z : List ℤ). c.loop-label.made.items ++ z ∷ []) c.marks.ensures)

pub returns : goal.returns
returns g c t =
    let r = c.args.resource.now in
    let labels = c.args.labels.now in
    let m = to_z w32 (of_z w32 c.args.moment) in
    c.loop-label.invariant
    ∙ (mapped_all (λ (l : Label g.row.R-Value.Denot). g.R.Marked.marks_of r l.value m) labels labels c.loop-label.label-index refl c.loop-label-test.false
    ∙ ap (λ (z : ℤ). map (λ (l : Label g.row.R-Value.Denot). g.R.Marked.marks_of r l.value z) labels) (to_z-of_z w32 c.args.moment c.ranges.moment))
