use Rattle.std.proofs.Common.{◌∙◌, ap, map}
use Rattle.std.proofs.lemmas.List.{take_all}
use Rattle.crew_pool.proofs.LabelLemmas.{pushed_in_step}
use Rattle.crew_pool.proofs.labels.Labels.of.Goals as goal

pub loop-label-init : goal.loop-label-init
loop-label-init g c = c.in_ok-reserve.ensures.rows ∙ c.new-columns.ensures

pub loop-label-preserved : goal.loop-label-preserved
loop-label-preserved g c =
    pushed_in_step (λ e. g.R.Marked.marks_of e.0) c.deref-label-items.result.now c.loop-label.label-index c.label-item.result c.loop-label.columns.rows c.push.new.self.rows c.marks.result c.loop-label-test.true c.label-item.is c.loop-label.invariant c.marks.ensures c.in_ok-push.ensures.ok

pub invariant_of-result : goal.invariant_of-result
invariant_of-result g c =
    c.loop-label.invariant ∙ ap (map (λ e. g.R.Marked.marks_of e.0)) (take_all c.loop-label.label-index c.deref-label-items.result.now c.loop-label-test.false ∙ c.deref-label-items.ensures.value)
