use Rattle.std.proofs.Common.{inr, List, sym, subst, ⊎_elim}
use Rattle.std.proofs.lemmas.List.Sorted.{IsPermutation-trans}
use Rattle.std.specs.List.Sorted.{IsPermutation}
use Rattle.crew_resource.specs.Members.{Member}
use Rattle.crew_pool.specs.Apart.{AreApart}
use Rattle.crew_pool.specs.Machinery.Meets.{vectors_of}
use Rattle.crew_pool.specs.declared.label_walk.LabelWalk.{LabelWalk}
use Rattle.crew_resource.proofs.Order.{order}
use Rattle.crew_pool.proofs.MergeLemmas.{met_all, met_more, met_none, on_err, yielded_all, yielded_there}
use Rattle.crew_pool.proofs.Permuted.{AreApart-permuted}
use Rattle.crew_pool.proofs.merge.merge_entries.Goals as goal

pub loop-label-init : goal.loop-label-init
loop-label-init g c = met_none g.R.Resource.below c.args.walks.now c.args.labels.now c.args.entries c.clear.new.self c.clear.ensures

pub meet-requires-clause-apart : goal.meet-requires-clause-apart
meet-requires-clause-apart g c = AreApart-permuted g.R.Resource.below g.met.R.Resource.order.reflexive (vectors_of c.args.labels.now) (vectors_of c.loop-label.labels) c.loop-label.invariant.vectors c.requires.labels

pub meet-requires-clause-alike : goal.meet-requires-clause-alike
meet-requires-clause-alike g c a m e =
    let l = c.in-Some.label in
    let there = yielded_there c.args.entries _ c.into_iter-label-iterator.ensures.into_iter_gives c.loop-label.yielded _ c.loop-label.yielded_by _ _ c.next.ensures.steps l c.in-Some.is in
    ⊎_elim (λ p. c.requires.between a l p there e) (λ q. c.requires.within a l q there e) (c.loop-label.invariant.from a m)

pub loop-label-preserved : goal.loop-label-preserved
loop-label-preserved g c =
    let l = c.in-Some.label in
    let there = yielded_there c.args.entries _ c.into_iter-label-iterator.ensures.into_iter_gives c.loop-label.yielded _ c.loop-label.yielded_by _ _ c.next.ensures.steps l c.in-Some.is in
    met_more g.R.Resource.below c.args.walks.now c.args.labels.now c.args.entries c.loop-label.yielded c.loop-label.labels c.loop-label.room c.loop-label.invariant l there c.meet.new.labels c.meet.new.room
    c.meet.ensures.vectors c.meet.ensures.from c.in_ok-meet.ensures.room c.in_ok-meet.ensures.local

pub returns : goal.returns
returns g c =
    let below = g.R.Resource.below in
    let whole = yielded_all c.args.entries _ c.into_iter-label-iterator.ensures.into_iter_gives c.loop-label.yielded _ c.loop-label.yielded_by _ _ c.next.ensures.steps c.in-None.is in
    let merged = met_all below c.args.walks.now c.args.labels.now c.args.entries (order g.R.Value.Ord.cmp below g.met.R.Resource.order) c.loop-label.yielded c.loop-label.labels c.loop-label.room c.loop-label.invariant
    whole c.requires.labels c.requires.list c.take_in.new.self c.in_ok-take_in.ensures.ok in
    record { local = merged.0; apart = merged.1; from = merged.2; err = tt }

pub returns-in_err-meet-clause-from : goal.returns-in_err-meet-clause-from
returns-in_err-meet-clause-from g c a m =
    let l = c.in-Some.label in
    let list = c.args.entries in
    let there = yielded_there c.args.entries _ c.into_iter-label-iterator.ensures.into_iter_gives c.loop-label.yielded _ c.loop-label.yielded_by _ _ c.next.ensures.steps l c.in-Some.is in
    ⊎_elim (c.loop-label.invariant.from a) (λ q. inr (subst (Member list) (sym q) there)) (c.meet.ensures.from a m)

pub returns-in_err-meet-clause-apart : goal.returns-in_err-meet-clause-apart
returns-in_err-meet-clause-apart g c =
    let before = vectors_of c.args.labels.now in
    let after = vectors_of c.meet.new.labels in
    AreApart-permuted g.R.Resource.below g.met.R.Resource.order.reflexive before after
    (IsPermutation-trans before (vectors_of c.loop-label.labels) after c.loop-label.invariant.vectors c.meet.ensures.vectors) c.requires.labels

pub returns-in_err-meet-clause-err : goal.returns-in_err-meet-clause-err
returns-in_err-meet-clause-err g c =
    on_err c.from_residual.result
    (IsPermutation-trans (vectors_of c.args.labels.now) (vectors_of c.loop-label.labels) (vectors_of c.meet.new.labels) c.loop-label.invariant.vectors c.meet.ensures.vectors)

pub returns-in_err-take_in-clause-apart : goal.returns-in_err-take_in-clause-apart
returns-in_err-take_in-clause-apart g c =
    let below = g.R.Resource.below in
    subst (λ (xs : List (g.row.R-Value.Denot × LabelWalk)). AreApart below (vectors_of xs)) (sym c.in_err-take_in.ensures.err)
    (AreApart-permuted below g.met.R.Resource.order.reflexive (vectors_of c.args.labels.now) (vectors_of c.loop-label.labels) c.loop-label.invariant.vectors c.requires.labels)

pub returns-in_err-take_in-clause-from : goal.returns-in_err-take_in-clause-from
returns-in_err-take_in-clause-from g c a m = c.loop-label.invariant.from a (subst (λ (xs : List (g.row.R-Value.Denot × LabelWalk)). Member xs a) c.in_err-take_in.ensures.err m)

pub returns-in_err-take_in-clause-err : goal.returns-in_err-take_in-clause-err
returns-in_err-take_in-clause-err g c =
    on_err c.from_residual-in_err-take_in.result
    (subst (λ (xs : List (g.row.R-Value.Denot × LabelWalk)). IsPermutation (vectors_of c.args.labels.now) (vectors_of xs)) (sym c.in_err-take_in.ensures.err) c.loop-label.invariant.vectors)
