use Rattle.crew_resource.proofs.Members.{Member-get_or, Member-map_in}
use Rattle.crew_resource.specs.Members.{Member}
use Rattle.std.proofs.Common.{◌∙◌, map, sym, subst}
use Rattle.crew_solve.specs.Machinery.Keyed.{keyed_label}
use Rattle.crew_solve.proofs.same_labels.find_from.Goals as goal

pub label_entry-entry-requires-clause-there : goal.label_entry-entry-requires-clause-there
label_entry-entry-requires-clause-there c = (c.requires _ (Member-get_or c.args.labels.now c.loop-place.place c.index-labels-place.result c.loop-place-test.true (sym c.index-labels-place.is))).0

pub label_entry-entry-requires-clause-ranked : goal.label_entry-entry-requires-clause-ranked
label_entry-entry-requires-clause-ranked c = (c.requires _ (Member-get_or c.args.labels.now c.loop-place.place c.index-labels-place.result c.loop-place-test.true (sym c.index-labels-place.is))).1

pub returns-then-is_same_entry : goal.returns-then-is_same_entry
returns-then-is_same_entry c =
    let b = c.args.sweep.now in
    let labels = c.args.labels.now in
    let is = sym c.label_entry-entry.ensures ∙ c.is_same_entry.ensures.0 c.if-is_same_entry.true in (
      c.loop-place-test.true,
      subst (λ e. Member (map (keyed_label b) labels) e) is (Member-map_in (keyed_label b) labels _ (Member-get_or labels c.loop-place.place c.index-labels-place.result c.loop-place-test.true (sym c.index-labels-place.is))),
    )
