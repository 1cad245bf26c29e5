use Rattle.std.proofs.Common.{ℕ, ◌+◌, List, [], ◌∷◌, ◌++◌, map, take, sym, ◌∙◌, ap, subst}
use Rattle.crew_resource.specs.Members.{Member}
use Rattle.crew_resource.proofs.Members.{Member-get_or}
use Rattle.crew_label.specs.Boarding.{waited_label}
use Rattle.crew_label.specs.Pools.{AreRising}
use Rattle.crew_label.specs.declared.label.Label.{Label}
use Rattle.crew_label.proofs.Listed.{mapped_all, mapped_more}
use Rattle.crew_label.proofs.Waiting.{rises-on}
use Rattle.crew_label.proofs.waited.waited_labels.Goals as goal

pub wait-value-requires : goal.wait-value-requires
wait-value-requires g c =
    c.requires c.label-item.result (subst (λ (ls : List (Label g.row.R-Value.Denot)). Member ls c.label-item.result) c.as_slice-label-items.ensures.all
    (Member-get_or c.as_slice-label-items.result.now c.loop-label.label-index c.label-item.result c.loop-label-test.true (sym c.label-item.is)))

pub loop-label-preserved : goal.loop-label-preserved
loop-label-preserved g c =
    let r = c.args.resource.now in
    let wait = λ (v : g.row.R-Value.Denot). g.R.Staged.waited r v c.args.arrival.now c.args.departure.now in
    let x = c.label-item.result in
    let i = c.loop-label.label-index in
    let moved : g.row.R-Value.Denot → Label g.row.R-Value.Denot = (λ v. record { value = v; before = x.before }) in
    let first = λ (n : ℕ) (ls : List (Label g.row.R-Value.Denot)). map (waited_label wait) (take n ls) in
    mapped_more (waited_label wait) c.as_slice-label-items.result.now i x c.loop-label.waited.items c.push.new.self.items c.loop-label-test.true c.label-item.is
    (c.loop-label.invariant ∙ ap (first i) (sym c.as_slice-label-items.ensures.all))
    (c.in_ok-push.ensures.items ∙ ap (λ v. c.loop-label.waited.items ++ moved v ∷ []) c.wait-value.ensures)
    ∙ ap (first (i + 1)) c.as_slice-label-items.ensures.all

pub returns-clause-labels : goal.returns-clause-labels
returns-clause-labels g c =
    let wait = λ (v : g.row.R-Value.Denot). g.R.Staged.waited c.args.resource.now v c.args.arrival.now c.args.departure.now in
    c.loop-label.invariant ∙ mapped_all (waited_label wait) c.as_slice-label-items.result.now c.args.pool.now c.loop-label.label-index c.as_slice-label-items.ensures.all c.loop-label-test.false

pub returns-clause-listed : goal.returns-clause-listed
returns-clause-listed g c keeps =
    let r = c.args.resource.now in
    let wait = λ (v : g.row.R-Value.Denot). g.R.Staged.waited r v c.args.arrival.now c.args.departure.now in
    subst (AreRising g.R.Value.Ord.cmp) (sym (c.loop-label.invariant ∙ mapped_all (waited_label wait) c.as_slice-label-items.result.now c.args.pool.now c.loop-label.label-index c.as_slice-label-items.ensures.all c.loop-label-test.false))
    (rises-on g.R.Value.Ord.cmp wait c.args.pool.now keeps c.as_slice-label-items.ensures.rises)
