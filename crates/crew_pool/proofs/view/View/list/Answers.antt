use Rattle.std.proofs.Common.{◌≡◌, ◌∙◌, List, sym, subst}
use Rattle.std.proofs.lemmas.Iterator.Consumers.{YieldsList-end, YieldsList-from_first}
use Rattle.std.specs.List.Sorted.{IsPermutation}
use Rattle.std.specs.Ordering.{nat_cmp, ordering_then}
use Rattle.crew_pool.specs.Apart.{AreApart}
use Rattle.crew_pool.specs.Machinery.Meets.{vectors_of}
use Rattle.crew_pool.specs.declared.label_walk.LabelWalk.{LabelWalk}
use Rattle.crew_pool.proofs.Listed.{first_not_less, listed_apart, map-itself}
use Rattle.crew_pool.proofs.Permuted.{labels-permuted}
use Rattle.crew_pool.proofs.view.View.list.Goals as goal

pub returns-clause-same : goal.returns-clause-same
returns-clause-same g c =
    let end = YieldsList-end (YieldsList-from_first (λ x. x) (λ s. s) c.args.self.now (c.into_iter-entry-iterator.ensures.into_iter_gives ∙ c.iter-entry-items.ensures.all)) c.loop-entry.yielded _ c.loop-entry.yielded_by _ _ c.in-None.is c.next.ensures.steps in
    let all : c.args.self.now ≡ c.loop-entry.list.items = sym end.0 ∙ (map-itself c.loop-entry.yielded ∙ sym c.loop-entry.invariant) in
    subst (λ (xs : List (g.row.R-Value.Denot × LabelWalk)). IsPermutation xs c.sort_unstable.new.self.items) (sym all) c.sort_unstable.ensures.permutation

pub returns-clause-rises : goal.returns-clause-rises
returns-clause-rises g c =
    let below = g.R.Resource.below in
    let cmp = g.R.Value.Ord.cmp in
    let tails = λ (a b : LabelWalk). ordering_then (nat_cmp a.walk b.walk) (nat_cmp a.duty b.duty) in
    let all : c.args.self.now ≡ c.loop-entry.list.items =
    let end = YieldsList-end (YieldsList-from_first (λ x. x) (λ s. s) c.args.self.now (c.into_iter-entry-iterator.ensures.into_iter_gives ∙ c.iter-entry-items.ensures.all)) c.loop-entry.yielded _ c.loop-entry.yielded_by _ _ c.in-None.is c.next.ensures.steps in
    sym end.0 ∙ (map-itself c.loop-entry.yielded ∙ sym c.loop-entry.invariant) in
    let apart : AreApart below (vectors_of c.loop-entry.list.items) = subst (λ (xs : List (g.row.R-Value.Denot × LabelWalk)). AreApart below (vectors_of xs)) all c.iter-entry-items.ensures.apart in
    listed_apart cmp below g.met.R.Value.Ord.total g.met.R.Resource.order (λ a b. ordering_then (cmp a.0 b.0) (tails a.1 b.1)) (λ a b e. first_not_less (cmp a.0 b.0) (tails a.1 b.1) e) c.sort_unstable.new.self.items c.sort_unstable.ensures.sorted
    (labels-permuted below g.met.R.Resource.order.reflexive c.loop-entry.list.items c.sort_unstable.new.self.items c.sort_unstable.ensures.permutation apart)
