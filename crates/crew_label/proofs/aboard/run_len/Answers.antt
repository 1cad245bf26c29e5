use Rattle.std.proofs.Common.{sym, ◌∙◌, ap}
use Rattle.crew_label.specs.declared.label.Label.{Label}
use Rattle.crew_label.proofs.Runs.{run-all, run-more}
use Rattle.crew_label.proofs.aboard.run_len.Goals as goal

pub loop-place-preserved : goal.loop-place-preserved
loop-place-preserved g c =
    run-more g.R.Forgets.same_sums c.args.labels.now c.loop-place.place c.index-labels-0.result c.index-labels-place.result c.loop-place-test.true c.index-labels-0.is c.index-labels-place.is
    (ap (λ (l : Label g.row.R-Value.Denot). g.R.Forgets.same_sums l.value c.index-labels-place.result.value) c.index-labels-0.is ∙ (sym c.has_same_sums.ensures ∙ c.if-not-has_same_sums.false))
    c.loop-place.invariant

pub returns : goal.returns
returns g c = run-all g.R.Forgets.same_sums c.args.labels.now c.loop-place.place c.loop-place-test.false c.loop-place.invariant
