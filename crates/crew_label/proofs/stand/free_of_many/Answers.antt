use Rattle.std.proofs.Common.{not, List, [], ◌∷◌, ◌++◌, Vec, Global, sym, ◌∙◌, ap, subst}
use Rattle.std.specs.List.{list_any}
use Rattle.std.proofs.lemmas.Bool.{not_from_false}
use Rattle.crew_resource.proofs.Members.{Member-get_or}
use Rattle.crew_label.specs.Machinery.Indexes.{IsGrouped}
use Rattle.crew_label.specs.Machinery.Rules.{same_by}
use Rattle.crew_label.specs.Pools.{stands_label}
use Rattle.crew_label.specs.declared.index.Group.{Group}
use Rattle.crew_label.specs.declared.seen.Seen.{Seen}
use Rattle.crew_label.proofs.SeenLabels.{member_label, told_one}
use Rattle.crew_label.proofs.Listed.{filter_all, filter_in, filter_out}
use Rattle.crew_label.proofs.stand.free_of_many.Goals as goal
use Rattle.crew_label.proofs.stand.free_of_many.Goals.{then-not-is_reached_by+in_ok-push_seen, else-not-is_reached_by}

pub is_reached_by-requires-clause-label : goal.is_reached_by-requires-clause-label
is_reached_by-requires-clause-label g c =
    let x = c.seen-item.result in
    c.requires.list x.label.now (member_label c.args.list.now x (Member-get_or c.args.list.now c.loop-seen.seen-index x c.loop-seen-test.true (sym c.seen-item.is)))

pub is_reached_by-requires-clause-groups : goal.is_reached_by-requires-clause-groups
is_reached_by-requires-clause-groups g c e m =
    subst (λ (gs : List Group). IsGrouped gs e) (sym c.deref.ensures.value) (c.in_ok-groups.ensures e m)

pub is_reached_by-requires-clause-told : goal.is_reached_by-requires-clause-told
is_reached_by-requires-clause-told g c =
    let x = c.seen-item.result in
    told_one (g.R.Marked.marks_of c.args.resource.now) c.args.list.now c.args.others.now c.requires.told x (Member-get_or c.args.list.now c.loop-seen.seen-index x c.loop-seen-test.true (sym c.seen-item.is))

pub loop-seen-preserved : goal.loop-seen-preserved
loop-seen-preserved g c =
    let p = λ (m : Seen g.row.R-Value.Denot). not (list_any (λ (s : Seen g.row.R-Value.Denot). stands_label g.R.Resource.below (same_by g.R.Resource.below g.R.Forgets.same_sums c.args.rule) (g.T.Trails.trail c.args.trails.now) s.label.now m.label.now) c.args.others.now) in
    let list = c.args.list.now in
    let i = c.loop-seen.seen-index in
    let x = c.seen-item.result in
    elim c.if-not-is_reached_by.branch [
      | then-not-is_reached_by+in_ok-push_seen w ↦
          ap (λ (f : Vec (Seen g.row.R-Value.Denot) Global). f.items) w.free-is
          ∙ (w.in_ok-push_seen.ensures
          ∙ (ap (λ (ys : List (Seen g.row.R-Value.Denot)). ys ++ x ∷ []) c.loop-seen.invariant
          ∙ filter_in p list i x c.loop-seen-test.true c.seen-item.is (not_from_false _ (sym c.is_reached_by.ensures ∙ w.if-not-is_reached_by.true))))
      | else-not-is_reached_by w ↦
          ap (λ (f : Vec (Seen g.row.R-Value.Denot) Global). f.items) w.free-is
          ∙ (c.loop-seen.invariant
          ∙ filter_out p list i x c.loop-seen-test.true c.seen-item.is (ap not (sym c.is_reached_by.ensures ∙ w.if-not-is_reached_by.false)))
    ]

pub returns : goal.returns
returns g c =
    let p = λ (m : Seen g.row.R-Value.Denot). not (list_any (λ (s : Seen g.row.R-Value.Denot). stands_label g.R.Resource.below (same_by g.R.Resource.below g.R.Forgets.same_sums c.args.rule) (g.T.Trails.trail c.args.trails.now) s.label.now m.label.now) c.args.others.now) in
    c.loop-seen.invariant ∙ filter_all p c.args.list.now c.loop-seen.seen-index c.loop-seen-test.false
