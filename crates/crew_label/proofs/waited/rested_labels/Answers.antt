use Rattle.std.proofs.Common.{[], ◌∷◌, ◌++◌, refl, ◌∙◌, ap}
use Rattle.crew_label.specs.Boarding.{waited_label}
use Rattle.crew_label.specs.declared.label.Label.{Label}
use Rattle.crew_label.proofs.Listed.{mapped_all, mapped_more}
use Rattle.crew_label.proofs.waited.rested_labels.Goals as goal

pub loop-label-preserved : goal.loop-label-preserved
loop-label-preserved g c =
    let x = c.label-item.result in
    let moved : g.row.R-Value.Denot → Label g.row.R-Value.Denot = (λ v. record { value = v; before = x.before }) in
    mapped_more (waited_label (g.R.Lapses.rested_of c.args.resource.now)) c.args.labels.now c.loop-label.label-index x
    c.loop-label.rested.items c.push.new.self.items c.loop-label-test.true c.label-item.is c.loop-label.invariant
    (c.in_ok-push.ensures.items ∙ ap (λ v. c.loop-label.rested.items ++ moved v ∷ []) c.rested-value.ensures)

pub returns : goal.returns
returns g c = c.loop-label.invariant ∙ mapped_all (waited_label (g.R.Lapses.rested_of c.args.resource.now)) c.args.labels.now c.args.labels.now c.loop-label.label-index refl c.loop-label-test.false
