use Rattle.std.proofs.Common.{◌++◌, List, inl, inr, sym, subst, ⊎_elim}
use Rattle.std.specs.List.Sorted.{IsPermutation}
use Rattle.std.proofs.lemmas.List.Sorted.{IsPermutation-sym}
use Rattle.crew_pool.proofs.MergeLemmas.{on_err}
use Rattle.crew_pool.proofs.Permuted.{Member-permuted}
use Rattle.crew_room.proofs.Sorted.{apart-permuted, pool-permuted}
use Rattle.crew_resource.specs.Members.{Member}
use Rattle.crew_resource.proofs.Values.{below_order}
use Rattle.crew_label.specs.Pools.{ArePoolOf, stands_label}
use Rattle.crew_label.specs.declared.label.Label.{Label}
use Rattle.crew_room.specs.Rooms.{HaveOwnValues}
use Rattle.crew_room.proofs.Joined.{from_joined, joined_apart, joined_pool, rising-apart}
use Rattle.crew_room.proofs.room.Room.wait.Goals as goal

pub invariant_of-self-2 : goal.invariant_of-self-2
invariant_of-self-2 g c =
    let f = g.met.R.Forgets.forgets c.args.resource.now in
    let trail = g.T.Trails.trail c.args.trails.now in
    let stands = λ (a b : Label g.row.R-Value.Denot). stands_label g.R.Resource.below g.R.Forgets.same_sums trail a b in
    let labels = c.args.labels.now in
    subst (λ (ls : List (Label g.row.R-Value.Denot)). HaveOwnValues ls) (sym (c.in_ok-join_labels.ensures.ok.2))
    (joined_apart g.R.Resource.below g.R.Forgets.same_sums trail (below_order g.met.R.Resource.order) f.same_itself f.same_between c.in_ok-join_labels.ensures.ok.0 labels
    (apart-permuted g.R.Value.Ord.cmp g.R.Resource.below g.met.R.Value.Ord.total g.met.R.Resource.order c.self.inside.held c.in_ok-join_labels.ensures.ok.0 c.in_ok-join_labels.ensures.ok.1 c.self.invariant)
    (rising-apart g.R.Value.Ord.cmp g.met.R.Value.Ord.total labels c.requires.rises))

pub returns-clause-pool : goal.returns-clause-pool
returns-clause-pool g c firsts seconds i j =
    let f = g.met.R.Forgets.forgets c.args.resource.now in
    let trail = g.T.Trails.trail c.args.trails.now in
    let stands = λ (a b : Label g.row.R-Value.Denot). stands_label g.R.Resource.below g.R.Forgets.same_sums trail a b in
    let labels = c.args.labels.now in
    subst (λ (ls : List (Label g.row.R-Value.Denot)). ArePoolOf g.R.Resource.below g.R.Forgets.same_sums trail (firsts ++ seconds) ls)
    (sym (c.in_ok-join_labels.ensures.ok.2))
    (joined_pool g.R.Resource.below g.R.Forgets.same_sums trail (below_order g.met.R.Resource.order) f.same_itself f.same_between c.in_ok-join_labels.ensures.ok.0 labels firsts seconds (pool-permuted g.R.Resource.below g.R.Forgets.same_sums trail firsts c.args.self.now c.in_ok-join_labels.ensures.ok.0 (subst (λ (ls : List (Label g.row.R-Value.Denot)). IsPermutation ls c.in_ok-join_labels.ensures.ok.0) c.self.view_is c.in_ok-join_labels.ensures.ok.1) i) j)

pub returns-clause-from : goal.returns-clause-from
returns-clause-from g c l m =
    let trail = g.T.Trails.trail c.args.trails.now in
    let stands = λ (a b : Label g.row.R-Value.Denot). stands_label g.R.Resource.below g.R.Forgets.same_sums trail a b in
    let labels = c.args.labels.now in
    ⊎_elim
    (λ k. inl (Member-permuted c.in_ok-join_labels.ensures.ok.0 c.args.self.now (IsPermutation-sym c.args.self.now c.in_ok-join_labels.ensures.ok.0 (subst (λ (ls : List (Label g.row.R-Value.Denot)). IsPermutation ls c.in_ok-join_labels.ensures.ok.0) c.self.view_is c.in_ok-join_labels.ensures.ok.1)) l k))
    (λ k. inr k)
    (from_joined stands c.in_ok-join_labels.ensures.ok.0 labels l
    (subst (λ (ls : List (Label g.row.R-Value.Denot)). Member ls l) (c.in_ok-join_labels.ensures.ok.2) m))

pub returns-clause-counts : goal.returns-clause-counts
returns-clause-counts g c l m = ⊎_elim (λ k. c.requires.counts l k) (λ k. c.requires.others l k) (returns-clause-from g c l m)

pub invariant_of-self : goal.invariant_of-self
invariant_of-self g c =
    apart-permuted g.R.Value.Ord.cmp g.R.Resource.below g.met.R.Value.Ord.total g.met.R.Resource.order c.self.inside.held c.join_labels.new.held c.in_err-join_labels.ensures.err c.self.invariant

pub returns-in_err-join_labels-clause-from : goal.returns-in_err-join_labels-clause-from
returns-in_err-join_labels-clause-from g c l m = inl (Member-permuted c.join_labels.new.held c.args.self.now (IsPermutation-sym c.args.self.now c.join_labels.new.held (subst (λ (ls : List (Label g.row.R-Value.Denot)). IsPermutation ls c.join_labels.new.held) c.self.view_is c.in_err-join_labels.ensures.err)) l m)

pub returns-in_err-join_labels-clause-counts : goal.returns-in_err-join_labels-clause-counts
returns-in_err-join_labels-clause-counts g c l m = c.requires.counts l (Member-permuted c.join_labels.new.held c.args.self.now (IsPermutation-sym c.args.self.now c.join_labels.new.held (subst (λ (ls : List (Label g.row.R-Value.Denot)). IsPermutation ls c.join_labels.new.held) c.self.view_is c.in_err-join_labels.ensures.err)) l m)

pub returns-in_err-join_labels-clause-err : goal.returns-in_err-join_labels-clause-err
returns-in_err-join_labels-clause-err g c = on_err c.from_residual.result (subst (λ (ls : List (Label g.row.R-Value.Denot)). IsPermutation ls c.join_labels.new.held) c.self.view_is c.in_err-join_labels.ensures.err)
