use Rattle.std.proofs.Common.{not, List, [], ◌∷◌, ◌++◌, Vec, Global, sym, ◌∙◌, ap}
use Rattle.std.specs.List.{list_any}
use Rattle.std.proofs.lemmas.Bool.{not_from_false}
use Rattle.crew_resource.proofs.Members.{Member-get_or}
use Rattle.crew_label.specs.Machinery.Rules.{same_by}
use Rattle.crew_label.specs.Pools.{stands_label}
use Rattle.crew_label.specs.declared.seen.Seen.{Seen}
use Rattle.crew_label.proofs.SeenLabels.{member_label}
use Rattle.crew_label.proofs.Listed.{filter_all, filter_in, filter_out}
use Rattle.crew_label.proofs.stand.free_of_few.Goals as goal
use Rattle.crew_label.proofs.stand.free_of_few.Goals.{then-not-is_reached+in_ok-push_seen, else-not-is_reached}

pub is_reached-requires-clause-label : goal.is_reached-requires-clause-label
is_reached-requires-clause-label g c =
    let x = c.seen-item.result in
    c.requires.list x.label.now (member_label c.args.list.now x (Member-get_or c.args.list.now c.loop-seen.seen-index x c.loop-seen-test.true (sym c.seen-item.is)))

pub loop-seen-preserved : goal.loop-seen-preserved
loop-seen-preserved g c =
    let p = λ (m : Seen g.row.R-Value.Denot). not (list_any (λ (s : Seen g.row.R-Value.Denot). stands_label g.R.Resource.below (same_by g.R.Resource.below g.R.Forgets.same_sums c.args.rule) (g.T.Trails.trail c.args.trails.now) s.label.now m.label.now) c.args.others.now) in
    let list = c.args.list.now in
    let i = c.loop-seen.seen-index in
    let x = c.seen-item.result in
    elim c.if-not-is_reached.branch [
      | then-not-is_reached+in_ok-push_seen w ↦
          ap (λ (f : Vec (Seen g.row.R-Value.Denot) Global). f.items) w.free-is
          ∙ (w.in_ok-push_seen.ensures
          ∙ (ap (λ (ys : List (Seen g.row.R-Value.Denot)). ys ++ x ∷ []) c.loop-seen.invariant
          ∙ filter_in p list i x c.loop-seen-test.true c.seen-item.is (not_from_false _ (sym c.is_reached.ensures ∙ w.if-not-is_reached.true))))
      | else-not-is_reached w ↦
          ap (λ (f : Vec (Seen g.row.R-Value.Denot) Global). f.items) w.free-is
          ∙ (c.loop-seen.invariant
          ∙ filter_out p list i x c.loop-seen-test.true c.seen-item.is (ap not (sym c.is_reached.ensures ∙ w.if-not-is_reached.false)))
    ]

pub returns : goal.returns
returns g c =
    let p = λ (m : Seen g.row.R-Value.Denot). not (list_any (λ (s : Seen g.row.R-Value.Denot). stands_label g.R.Resource.below (same_by g.R.Resource.below g.R.Forgets.same_sums c.args.rule) (g.T.Trails.trail c.args.trails.now) s.label.now m.label.now) c.args.others.now) in
    c.loop-seen.invariant ∙ filter_all p c.args.list.now c.loop-seen.seen-index c.loop-seen-test.false
