use Rattle.std.proofs.Common.{◌∙◌, ◌++◌, List, ap, map, inl, inr, sym, subst, ⊎_elim}
use Rattle.crew_room.specs.Machinery.Joins.{joined}
use Rattle.std.specs.List.Sorted.{IsPermutation}
use Rattle.std.proofs.lemmas.List.Sorted.{IsPermutation-sym}
use Rattle.crew_pool.proofs.MergeLemmas.{on_err}
use Rattle.crew_pool.proofs.Permuted.{Member-permuted}
use Rattle.crew_room.proofs.Sorted.{apart-permuted, pool-permuted}
use Rattle.crew_resource.specs.Members.{Member}
use Rattle.crew_resource.proofs.Values.{below_order}
use Rattle.crew_label.specs.Boarding.{boarded_from}
use Rattle.crew_label.specs.Pools.{ArePoolOf, stands_label}
use Rattle.crew_label.specs.Walks.{shown}
use Rattle.crew_label.specs.declared.label.Label.{Label}
use Rattle.crew_label.proofs.Boarded.{boarded_counted}
use Rattle.crew_room.specs.Rooms.{HaveOwnValues}
use Rattle.crew_room.proofs.Boarded.{boarded-apart, boarded-pool}
use Rattle.crew_room.proofs.Joined.{from_joined, joined_apart, joined_pool, rising-apart}
use Rattle.crew_room.proofs.room.Room.board.Goals as goal

pub invariant_of-self-2 : goal.invariant_of-self-2
invariant_of-self-2 g c =
    let r = c.args.resource.now in
    let d = c.args.item.now in
    let f = g.met.R.Forgets.forgets r in
    let trail = g.T.Trails.trail c.args.trails.now in
    let stands = λ (a b : Label g.row.R-Value.Denot). stands_label g.R.Resource.below g.R.Forgets.same_sums trail a b in
    let board = λ (v : g.row.R-Value.Denot). g.R.Staged.boards r v d in
    let two = boarded_from board c.args.duty 0 c.args.pool.now in
    subst (λ (ls : List (Label g.row.R-Value.Denot)). HaveOwnValues ls)
    (sym (c.in_ok-join_boarding.ensures.ok.2 ∙ ap (λ (ls : List (Label g.row.R-Value.Denot)). joined stands c.in_ok-join_boarding.ensures.ok.0 (boarded_from board c.args.duty 0 ls)) c.as_slice-labels.ensures.all))
    (joined_apart g.R.Resource.below g.R.Forgets.same_sums trail (below_order g.met.R.Resource.order) f.same_itself f.same_between c.in_ok-join_boarding.ensures.ok.0 two
    (apart-permuted g.R.Value.Ord.cmp g.R.Resource.below g.met.R.Value.Ord.total g.met.R.Resource.order c.self.inside.held c.in_ok-join_boarding.ensures.ok.0 c.in_ok-join_boarding.ensures.ok.1 c.self.invariant)
    (boarded-apart g.R.Value.Ord.cmp g.R.Resource.below g.R.Forgets.same_sums g.met.R.Resource.order board c.args.duty c.args.pool.now
    (λ l m y z ml bl bm h. (g.met.R.Lapses.aboard r).board_reflects l.value m.value y z d (c.requires.stays l ml) bl bm h)
    (rising-apart g.R.Value.Ord.cmp g.met.R.Value.Ord.total c.args.pool.now c.as_slice-labels.ensures.rises)))

pub returns-clause-pool : goal.returns-clause-pool
returns-clause-pool g c candidates i =
    let r = c.args.resource.now in
    let d = c.args.item.now in
    let f = g.met.R.Forgets.forgets r in
    let trail = g.T.Trails.trail c.args.trails.now in
    let stands = λ (a b : Label g.row.R-Value.Denot). stands_label g.R.Resource.below g.R.Forgets.same_sums trail a b in
    let board = λ (v : g.row.R-Value.Denot). g.R.Staged.boards r v d in
    let two = boarded_from board c.args.duty 0 c.args.pool.now in
    subst (λ (ls : List (Label g.row.R-Value.Denot)). ArePoolOf g.R.Resource.below g.R.Forgets.same_sums trail (candidates ++ map (shown trail) two) ls)
    (sym (c.in_ok-join_boarding.ensures.ok.2 ∙ ap (λ (ls : List (Label g.row.R-Value.Denot)). joined stands c.in_ok-join_boarding.ensures.ok.0 (boarded_from board c.args.duty 0 ls)) c.as_slice-labels.ensures.all))
    (joined_pool g.R.Resource.below g.R.Forgets.same_sums trail (below_order g.met.R.Resource.order) f.same_itself f.same_between c.in_ok-join_boarding.ensures.ok.0 two candidates (map (shown trail) two) (pool-permuted g.R.Resource.below g.R.Forgets.same_sums trail candidates c.args.self.now c.in_ok-join_boarding.ensures.ok.0 (subst (λ (ls : List (Label g.row.R-Value.Denot)). IsPermutation ls c.in_ok-join_boarding.ensures.ok.0) c.self.view_is c.in_ok-join_boarding.ensures.ok.1) i)
    (boarded-pool g.R.Value.Ord.cmp g.R.Resource.below g.R.Forgets.same_sums g.met.R.Resource.order board c.args.duty f.same_itself f.same_between
    (λ a b y z p q. (g.met.R.Lapses.together r).board_same a b y z d p q)
    c.requires.into.0 trail (g.T.Trails.leads c.args.trails.now) (g.R.Staged.count_of r) c.requires.tell c.args.pool.now c.requires.into.1 c.requires.others
    (λ l m y z ml bl bm h. (g.met.R.Lapses.aboard r).board_reflects l.value m.value y z d (c.requires.stays l ml) bl bm h)
    c.requires.clean.0 c.requires.clean.1))

pub returns-clause-from : goal.returns-clause-from
returns-clause-from g c l m =
    let r = c.args.resource.now in
    let d = c.args.item.now in
    let trail = g.T.Trails.trail c.args.trails.now in
    let stands = λ (a b : Label g.row.R-Value.Denot). stands_label g.R.Resource.below g.R.Forgets.same_sums trail a b in
    let board = λ (v : g.row.R-Value.Denot). g.R.Staged.boards r v d in
    ⊎_elim
    (λ k. inl (Member-permuted c.in_ok-join_boarding.ensures.ok.0 c.args.self.now (IsPermutation-sym c.args.self.now c.in_ok-join_boarding.ensures.ok.0 (subst (λ (ls : List (Label g.row.R-Value.Denot)). IsPermutation ls c.in_ok-join_boarding.ensures.ok.0) c.self.view_is c.in_ok-join_boarding.ensures.ok.1)) l k))
    (λ k. inr k)
    (from_joined stands c.in_ok-join_boarding.ensures.ok.0 (boarded_from board c.args.duty 0 c.args.pool.now) l
    (subst (λ (ls : List (Label g.row.R-Value.Denot)). Member ls l)
    (c.in_ok-join_boarding.ensures.ok.2 ∙ ap (λ (ls : List (Label g.row.R-Value.Denot)). joined stands c.in_ok-join_boarding.ensures.ok.0 (boarded_from board c.args.duty 0 ls)) c.as_slice-labels.ensures.all) m))

pub returns-clause-counts : goal.returns-clause-counts
returns-clause-counts g c l m =
    let r = c.args.resource.now in
    let d = c.args.item.now in
    ⊎_elim
    (λ k. c.requires.counts l k)
    (λ k. boarded_counted (λ (v : g.row.R-Value.Denot). g.R.Staged.boards r v d) c.args.duty (g.T.Trails.leads c.args.trails.now) (g.T.Trails.trail c.args.trails.now) c.requires.into.0 (g.R.Staged.count_of r)
    (λ v z e. (g.met.R.Staged.counting r c.requires.most.0 c.requires.most.1).one_more v z d e) c.args.pool.now c.requires.into.1 c.requires.others l k)
    (returns-clause-from g c l m)

pub invariant_of-self : goal.invariant_of-self
invariant_of-self g c =
    apart-permuted g.R.Value.Ord.cmp g.R.Resource.below g.met.R.Value.Ord.total g.met.R.Resource.order c.self.inside.held c.join_boarding.new.held c.in_err-join_boarding.ensures.err c.self.invariant

pub returns-in_err-join_boarding-clause-from : goal.returns-in_err-join_boarding-clause-from
returns-in_err-join_boarding-clause-from g c l m = inl (Member-permuted c.join_boarding.new.held c.args.self.now (IsPermutation-sym c.args.self.now c.join_boarding.new.held (subst (λ (ls : List (Label g.row.R-Value.Denot)). IsPermutation ls c.join_boarding.new.held) c.self.view_is c.in_err-join_boarding.ensures.err)) l m)

pub returns-in_err-join_boarding-clause-counts : goal.returns-in_err-join_boarding-clause-counts
returns-in_err-join_boarding-clause-counts g c l m = c.requires.counts l (Member-permuted c.join_boarding.new.held c.args.self.now (IsPermutation-sym c.args.self.now c.join_boarding.new.held (subst (λ (ls : List (Label g.row.R-Value.Denot)). IsPermutation ls c.join_boarding.new.held) c.self.view_is c.in_err-join_boarding.ensures.err)) l m)

pub returns-in_err-join_boarding-clause-err : goal.returns-in_err-join_boarding-clause-err
returns-in_err-join_boarding-clause-err g c = on_err c.from_residual.result (subst (λ (ls : List (Label g.row.R-Value.Denot)). IsPermutation ls c.join_boarding.new.held) c.self.view_is c.in_err-join_boarding.ensures.err)
