use Rattle.std.proofs.Common.{◌∙◌, ◌+◌, ◌++◌, List, Some, ap, not, sym, subst, take}
use Rattle.std.specs.List.{list_any}
use Rattle.std.specs.List.Sorted.{IsPermutation}
use Rattle.std.proofs.lemmas.List.Sorted.{IsPermutation-refl, IsPermutation-sym, IsPermutation-trans}
use Rattle.crew_pool.proofs.MergeLemmas.{on_err}
use Rattle.crew_pool.proofs.Permuted.{Member-permuted}
use Rattle.std.proofs.lemmas.List.{take_all}
use Rattle.std.proofs.lemmas.Option.{slice_get-get_or}
use Rattle.crew_label.specs.Boarding.{boarded_from, linked}
use Rattle.crew_label.specs.Pools.{stands_label}
use Rattle.crew_label.specs.declared.label.Label.{Label}
use Rattle.crew_label.proofs.Boarded.{boarded-more, boarded_counted}
use Rattle.crew_resource.specs.Members.{Member}
use Rattle.crew_resource.proofs.Members.{Member-filter_out, Member-get_or}
use Rattle.crew_room.specs.Machinery.Joins.{free_of}
use Rattle.crew_room.proofs.Boarded.{linked-counted}
use Rattle.crew_room.proofs.Joined.{free_both, free_permuted}
use Rattle.crew_room.proofs.join.join_boarding.Goals as goal

pub meet_boarding-requires-clause-boards : goal.meet_boarding-requires-clause-boards
meet_boarding-requires-clause-boards g c =
    let x = c.index-labels-place.result in
    c.requires.boards x (Member-get_or c.args.labels.now c.loop-place.place x c.loop-place-test.true (sym c.index-labels-place.is))

pub meet_boarding-requires-clause-counts : goal.meet_boarding-requires-clause-counts
meet_boarding-requires-clause-counts g c =
    let r = c.args.resource.now in
    let d = c.args.item.now in
    let ls = c.args.labels.now in
    let i = c.loop-place.place in
    let x = c.index-labels-place.result in
    linked-counted (λ (v : g.row.R-Value.Denot). g.R.Staged.boards r v d) c.args.duty c.requires.into.0 (g.T.Trails.trail c.args.trails.now) (g.T.Trails.leads c.args.trails.now) (g.R.Staged.count_of r)
    (λ v z e. (g.met.R.Staged.counting r c.requires.most.0 c.requires.most.1).one_more v z d e) ls c.requires.into.1 i x
    (slice_get-get_or ls i x c.loop-place-test.true ∙ ap Some (sym c.index-labels-place.is))
    (c.requires.labels x (Member-get_or ls i x c.loop-place-test.true (sym c.index-labels-place.is)))

pub loop-place-preserved : goal.loop-place-preserved
loop-place-preserved g c =
    let stands = λ (a b : Label g.row.R-Value.Denot). stands_label g.R.Resource.below g.R.Forgets.same_sums (g.T.Trails.trail c.args.trails.now) a b in
    let board = λ (v : g.row.R-Value.Denot). g.R.Staged.boards c.args.resource.now v c.args.item.now in
    let ls = c.args.labels.now in
    let i = c.loop-place.place in
    let x = c.index-labels-place.result in
    let moved = c.meet_boarding.new.held in
    record {
      order = IsPermutation-trans c.args.held.now c.loop-place.held moved c.loop-place.invariant.order c.meet_boarding.ensures.order;
      free =
          free_both stands c.loop-place.held (boarded_from board c.args.duty 0 (take i ls)) (linked (board x.value) (record { duty = c.args.duty; place = i })) (boarded_from board c.args.duty 0 (take (i + 1) ls))
          c.loop-place.free c.meet_boarding.new.free (boarded-more board c.args.duty ls i x c.loop-place-test.true c.index-labels-place.is) c.loop-place.invariant.free c.in_ok-meet_boarding.ensures.free
          ∙ free_permuted stands c.loop-place.held moved (boarded_from board c.args.duty 0 (take (i + 1) ls)) c.meet_boarding.ensures.order;
    }

pub take_in-requires-clause-joins : goal.take_in-requires-clause-joins
take_in-requires-clause-joins g c l m =
    let r = c.args.resource.now in
    let d = c.args.item.now in
    let ls = c.args.labels.now in
    let stands = λ (a b : Label g.row.R-Value.Denot). stands_label g.R.Resource.below g.R.Forgets.same_sums (g.T.Trails.trail c.args.trails.now) a b in
    let board = λ (v : g.row.R-Value.Denot). g.R.Staged.boards r v d in
    let held = c.loop-place.held in
    let all = c.loop-place.invariant.free ∙ ap (λ (ms : List (Label g.row.R-Value.Denot)). free_of stands held (boarded_from board c.args.duty 0 ms)) (take_all c.loop-place.place ls c.loop-place-test.false) in
    boarded_counted board c.args.duty (g.T.Trails.leads c.args.trails.now) (g.T.Trails.trail c.args.trails.now) c.requires.into.0 (g.R.Staged.count_of r)
    (λ v z e. (g.met.R.Staged.counting r c.requires.most.0 c.requires.most.1).one_more v z d e) ls c.requires.into.1 c.requires.labels l
    (Member-filter_out (λ z. not (list_any (λ o. stands o z) held)) (boarded_from board c.args.duty 0 ls) l (subst (λ (ms : List (Label g.row.R-Value.Denot)). Member ms l) all m)).0

pub returns-clause-ok : goal.returns-clause-ok
returns-clause-ok g c =
    let stands = λ (a b : Label g.row.R-Value.Denot). stands_label g.R.Resource.below g.R.Forgets.same_sums (g.T.Trails.trail c.args.trails.now) a b in
    let board = λ (v : g.row.R-Value.Denot). g.R.Staged.boards c.args.resource.now v c.args.item.now in
    let held = c.loop-place.held in
    let ls = c.args.labels.now in
    let all = c.loop-place.invariant.free ∙ ap (λ (ms : List (Label g.row.R-Value.Denot)). free_of stands held (boarded_from board c.args.duty 0 ms)) (take_all c.loop-place.place ls c.loop-place-test.false) in
    (held, c.loop-place.invariant.order, c.in_ok-take_in.ensures.ok ∙ ap (λ (f : List (Label g.row.R-Value.Denot)). free_of stands f held ++ f) all)

pub loop-place-init : goal.loop-place-init
loop-place-init g c = record { order = IsPermutation-refl c.args.held.now; free = c.clear.ensures }

pub meet_boarding-requires-clause-held : goal.meet_boarding-requires-clause-held
meet_boarding-requires-clause-held g c l m =
    c.requires.held l (Member-permuted c.loop-place.held c.args.held.now (IsPermutation-sym c.args.held.now c.loop-place.held c.loop-place.invariant.order) l m)

pub take_in-requires-clause-held : goal.take_in-requires-clause-held
take_in-requires-clause-held g c l m =
    c.requires.held l (Member-permuted c.loop-place.held c.args.held.now (IsPermutation-sym c.args.held.now c.loop-place.held c.loop-place.invariant.order) l m)

pub returns-in_err-meet_boarding-clause-err : goal.returns-in_err-meet_boarding-clause-err
returns-in_err-meet_boarding-clause-err g c =
    on_err c.from_residual.result (IsPermutation-trans c.args.held.now c.loop-place.held c.meet_boarding.new.held c.loop-place.invariant.order c.meet_boarding.ensures.order)

pub returns-in_err-take_in-clause-err : goal.returns-in_err-take_in-clause-err
returns-in_err-take_in-clause-err g c =
    on_err c.from_residual-in_err-take_in.result
    (subst (λ (ls : List (Label g.row.R-Value.Denot)). IsPermutation c.args.held.now ls) (sym c.in_err-take_in.ensures.err) c.loop-place.invariant.order)
