use Rattle.std.proofs.Common.{List, [], ◌∷◌, ◌++◌, take, refl, sym, ◌∙◌, ap}
use Rattle.std.proofs.lemmas.List.{take_more}
use Rattle.crew_label.specs.declared.label.Label.{Label}
use Rattle.crew_label.proofs.Listed.{taken_all}
use Rattle.crew_label.proofs.SeenLabels.{labels-last, marks_told, told_last}
use Rattle.crew_label.proofs.seen.see.Goals as goal

pub loop-place-preserved : goal.loop-place-preserved
loop-place-preserved g c =
    let labels = c.args.labels.now in
    let i = c.loop-place.place in
    let x = c.index-labels-place.result in (
      labels-last c.loop-place.seen.items _ _ c.in_ok-push.ensures.items
          ∙ (ap (λ (ls : List (Label g.row.R-Value.Denot)). ls ++ x ∷ []) c.loop-place.invariant.0
          ∙ sym (take_more labels i x c.loop-place-test.true ∙ ap (λ z. take i labels ++ z ∷ []) (sym c.index-labels-place.is))),
      λ f h. told_last f c.loop-place.seen.items _ _ c.in_ok-push.ensures.items (c.loop-place.invariant.1 f h)
          (c.marks_at-marks.ensures (f x.value) (marks_told f c.args.marks.now labels i x h c.loop-place-test.true c.index-labels-place.is)),
    )

pub returns-clause-labels : goal.returns-clause-labels
returns-clause-labels g c = c.loop-place.invariant.0 ∙ taken_all c.args.labels.now c.args.labels.now c.loop-place.place refl c.loop-place-test.false

pub returns-clause-told : goal.returns-clause-told
returns-clause-told g c f h = c.loop-place.invariant.1 f h
