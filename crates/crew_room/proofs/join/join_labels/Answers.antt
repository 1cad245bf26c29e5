use Rattle.std.proofs.Common.{◌∙◌, ◌+◌, ◌++◌, List, ap, not, sym, subst, take}
use Rattle.std.specs.List.{list_any}
use Rattle.std.specs.List.Sorted.{IsPermutation}
use Rattle.std.proofs.lemmas.List.Sorted.{IsPermutation-refl, IsPermutation-sym, IsPermutation-trans}
use Rattle.crew_pool.proofs.MergeLemmas.{on_err}
use Rattle.crew_pool.proofs.Permuted.{Member-permuted}
use Rattle.std.proofs.lemmas.List.{take_all}
use Rattle.crew_label.specs.Pools.{stands_label}
use Rattle.crew_label.specs.declared.label.Label.{Label}
use Rattle.crew_resource.specs.Members.{Member}
use Rattle.crew_resource.proofs.Members.{Member-filter_out, Member-get_or}
use Rattle.crew_room.specs.Machinery.Joins.{free_of}
use Rattle.crew_room.proofs.Joined.{free_more, free_permuted}
use Rattle.crew_room.proofs.join.join_labels.Goals as goal

pub meet-requires-clause-label : goal.meet-requires-clause-label
meet-requires-clause-label g c =
    let x = c.label-item.result in
    c.requires.labels x (Member-get_or c.args.labels.now c.loop-label.label-index x c.loop-label-test.true (sym c.label-item.is))

pub loop-label-preserved : goal.loop-label-preserved
loop-label-preserved g c =
    let stands = λ (a b : Label g.row.R-Value.Denot). stands_label g.R.Resource.below g.R.Forgets.same_sums (g.T.Trails.trail c.args.trails.now) a b in
    let moved = c.meet.new.held in
    record {
      order = IsPermutation-trans c.args.held.now c.loop-label.held moved c.loop-label.invariant.order c.meet.ensures.order;
      free =
          free_more stands c.loop-label.held c.args.labels.now c.loop-label.label-index c.label-item.result c.loop-label.free c.meet.new.free c.loop-label-test.true c.label-item.is c.loop-label.invariant.free c.in_ok-meet.ensures.free
          ∙ free_permuted stands c.loop-label.held moved (take (c.loop-label.label-index + 1) c.args.labels.now) c.meet.ensures.order;
    }

pub take_in-requires-clause-joins : goal.take_in-requires-clause-joins
take_in-requires-clause-joins g c l m =
    let stands = λ (a b : Label g.row.R-Value.Denot). stands_label g.R.Resource.below g.R.Forgets.same_sums (g.T.Trails.trail c.args.trails.now) a b in
    let held = c.loop-label.held in
    let labels = c.args.labels.now in
    let all = c.loop-label.invariant.free ∙ ap (free_of stands held) (take_all c.loop-label.label-index labels c.loop-label-test.false) in
    c.requires.labels l (Member-filter_out (λ z. not (list_any (λ o. stands o z) held)) labels l (subst (λ (ls : List (Label g.row.R-Value.Denot)). Member ls l) all m)).0

pub returns-clause-ok : goal.returns-clause-ok
returns-clause-ok g c =
    let stands = λ (a b : Label g.row.R-Value.Denot). stands_label g.R.Resource.below g.R.Forgets.same_sums (g.T.Trails.trail c.args.trails.now) a b in
    let held = c.loop-label.held in
    let labels = c.args.labels.now in
    let all = c.loop-label.invariant.free ∙ ap (free_of stands held) (take_all c.loop-label.label-index labels c.loop-label-test.false) in
    (held, c.loop-label.invariant.order, c.in_ok-take_in.ensures.ok ∙ ap (λ (f : List (Label g.row.R-Value.Denot)). free_of stands f held ++ f) all)

pub loop-label-init : goal.loop-label-init
loop-label-init g c = record { order = IsPermutation-refl c.args.held.now; free = c.clear.ensures }

pub meet-requires-clause-held : goal.meet-requires-clause-held
meet-requires-clause-held g c l m =
    c.requires.held l (Member-permuted c.loop-label.held c.args.held.now (IsPermutation-sym c.args.held.now c.loop-label.held c.loop-label.invariant.order) l m)

pub take_in-requires-clause-held : goal.take_in-requires-clause-held
take_in-requires-clause-held g c l m =
    c.requires.held l (Member-permuted c.loop-label.held c.args.held.now (IsPermutation-sym c.args.held.now c.loop-label.held c.loop-label.invariant.order) l m)

pub returns-in_err-meet-clause-err : goal.returns-in_err-meet-clause-err
returns-in_err-meet-clause-err g c =
    on_err c.from_residual.result (IsPermutation-trans c.args.held.now c.loop-label.held c.meet.new.held c.loop-label.invariant.order c.meet.ensures.order)

pub returns-in_err-take_in-clause-err : goal.returns-in_err-take_in-clause-err
returns-in_err-take_in-clause-err g c =
    on_err c.from_residual-in_err-take_in.result
    (subst (λ (ls : List (Label g.row.R-Value.Denot)). IsPermutation c.args.held.now ls) (sym c.in_err-take_in.ensures.err) c.loop-label.invariant.order)
