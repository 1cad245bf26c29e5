use Rattle.std.proofs.Common.{◌∙◌, inl, inr, map, sym, subst}
use Rattle.crew_resource.proofs.Members.{Member-get_or, Member-map_out}
use Rattle.crew_resource.specs.Members.{Member}
use Rattle.crew_solve.proofs.SameLabels.{one-more, take-whole}
use Rattle.crew_solve.specs.Machinery.Keyed.{keyed_label}
use Rattle.crew_solve.proofs.same_labels.are_all_among.Goals as goal

pub label_entry-wanted-requires-clause-there : goal.label_entry-wanted-requires-clause-there
label_entry-wanted-requires-clause-there c = (c.requires.own _ (Member-get_or c.args.labels.now c.loop-place.place c.index-labels-place.result c.loop-place-test.true (sym c.index-labels-place.is))).0

pub label_entry-wanted-requires-clause-ranked : goal.label_entry-wanted-requires-clause-ranked
label_entry-wanted-requires-clause-ranked c = (c.requires.own _ (Member-get_or c.args.labels.now c.loop-place.place c.index-labels-place.result c.loop-place-test.true (sym c.index-labels-place.is))).1

pub loop-place-preserved : goal.loop-place-preserved
loop-place-preserved c = λ x m.
    let one = c.args.one.now in
    let other = c.args.other.now in
    let others = c.args.others.now in
    let found = subst (λ e. Member (map (keyed_label other) others) e) c.label_entry-wanted.ensures c.in-Some.ensures.1 in
    let label = c.index-labels-place.result in
    elim (one-more c.args.labels.now c.loop-place.place label x c.loop-place-test.true m) [
      | inl k ↦ c.loop-place.invariant x k
      | inr e ↦ subst (λ z. Member (map (keyed_label other) others) (keyed_label one z)) (c.index-labels-place.is ∙ e) found
    ]

pub returns : goal.returns
returns c = λ _ e m.
    let one = c.args.one.now in
    let labels = c.args.labels.now in
    let out = Member-map_out (keyed_label one) labels e m in
    let held = subst (λ ls. Member ls out.0) (sym (take-whole labels c.loop-place.place c.loop-place-test.false)) out.1 in
    subst (λ z. Member (map (keyed_label c.args.other.now) c.args.others.now) z) out.2 (c.loop-place.invariant out.0 held)
