use Rattle.std.proofs.Common.{ap, arith, inr, List, ◌++◌, ◌∷◌, [], sym, ◌∙◌, subst, ⊎_elim, take}
use Rattle.std.proofs.lemmas.List.{take_all, take_more}
use Rattle.std.proofs.lemmas.List.Sorted.{IsPermutation-trans}
use Rattle.std.specs.List.Sorted.{IsPermutation}
use Rattle.crew_resource.specs.Members.{Member}
use Rattle.crew_resource.proofs.Members.{Member-get_or}
use Rattle.crew_pool.specs.Apart.{AreApart}
use Rattle.crew_pool.specs.Machinery.Meets.{vectors_of}
use Rattle.crew_pool.specs.declared.label_walk.LabelWalk.{LabelWalk}
use Rattle.crew_resource.proofs.Order.{order}
use Rattle.crew_pool.proofs.MergeLemmas.{HasMet, met_all, met_more, met_none, on_err}
use Rattle.crew_pool.proofs.Permuted.{AreApart-permuted}
use Rattle.crew_pool.proofs.merge.merge_labels.Goals as goal

pub loop-label-init : goal.loop-label-init
loop-label-init g c = met_none g.R.Resource.below c.args.walks.now c.args.labels.now c.args.list.now c.clear.new.self c.clear.ensures

pub meet-requires-clause-apart : goal.meet-requires-clause-apart
meet-requires-clause-apart g c = AreApart-permuted g.R.Resource.below g.met.R.Resource.order.reflexive (vectors_of c.args.labels.now) (vectors_of c.loop-label.labels) c.loop-label.invariant.vectors c.requires.labels

pub meet-requires-clause-alike : goal.meet-requires-clause-alike
meet-requires-clause-alike g c a m e =
    let l = c.label-item.result in
    let there = Member-get_or c.args.list.now c.loop-label.label-index l c.loop-label-test.true (sym c.label-item.is) in
    ⊎_elim (λ p. c.requires.between a l p there e) (λ q. c.requires.within a l q there e) (c.loop-label.invariant.from a m)

pub loop-label-preserved : goal.loop-label-preserved
loop-label-preserved g c =
    let below = g.R.Resource.below in
    let i = c.loop-label.label-index in
    let l = c.label-item.result in
    let list = c.args.list.now in
    let ws = c.args.walks.now in
    let before = c.args.labels.now in
    let there = Member-get_or list i l c.loop-label-test.true (sym c.label-item.is) in
    subst (λ (es : List (g.row.R-Value.Denot × LabelWalk)). HasMet below ws before list es c.meet.new.labels c.meet.new.room)
    (ap (λ z. take i list ++ z ∷ []) c.label-item.is ∙ sym (take_more list i l c.loop-label-test.true))
    (met_more below ws before list (take i list) c.loop-label.labels c.loop-label.room c.loop-label.invariant l there c.meet.new.labels c.meet.new.room c.meet.ensures.vectors c.meet.ensures.from
    c.in_ok-meet.ensures.room c.in_ok-meet.ensures.local)

pub returns : goal.returns
returns g c =
    let below = g.R.Resource.below in
    let list = c.args.list.now in
    let merged = met_all below c.args.walks.now c.args.labels.now list (order g.R.Value.Ord.cmp below g.met.R.Resource.order)
    (take c.loop-label.label-index list) c.loop-label.labels c.loop-label.room c.loop-label.invariant (take_all c.loop-label.label-index list (omega arith)) c.requires.labels c.requires.list
    c.take_in.new.self c.in_ok-take_in.ensures.ok in
    record { local = merged.0; apart = merged.1; from = merged.2; err = tt }

pub returns-in_err-meet-clause-from : goal.returns-in_err-meet-clause-from
returns-in_err-meet-clause-from g c a m =
    let l = c.label-item.result in
    let list = c.args.list.now in
    let there = Member-get_or list c.loop-label.label-index l c.loop-label-test.true (sym c.label-item.is) in
    ⊎_elim (c.loop-label.invariant.from a) (λ q. inr (subst (Member list) (sym q) there)) (c.meet.ensures.from a m)

pub returns-in_err-meet-clause-apart : goal.returns-in_err-meet-clause-apart
returns-in_err-meet-clause-apart g c =
    let before = vectors_of c.args.labels.now in
    let after = vectors_of c.meet.new.labels in
    AreApart-permuted g.R.Resource.below g.met.R.Resource.order.reflexive before after
    (IsPermutation-trans before (vectors_of c.loop-label.labels) after c.loop-label.invariant.vectors c.meet.ensures.vectors) c.requires.labels

pub returns-in_err-meet-clause-err : goal.returns-in_err-meet-clause-err
returns-in_err-meet-clause-err g c =
    on_err c.from_residual.result
    (IsPermutation-trans (vectors_of c.args.labels.now) (vectors_of c.loop-label.labels) (vectors_of c.meet.new.labels) c.loop-label.invariant.vectors c.meet.ensures.vectors)

pub returns-in_err-take_in-clause-apart : goal.returns-in_err-take_in-clause-apart
returns-in_err-take_in-clause-apart g c =
    let below = g.R.Resource.below in
    subst (λ (xs : List (g.row.R-Value.Denot × LabelWalk)). AreApart below (vectors_of xs)) (sym c.in_err-take_in.ensures.err)
    (AreApart-permuted below g.met.R.Resource.order.reflexive (vectors_of c.args.labels.now) (vectors_of c.loop-label.labels) c.loop-label.invariant.vectors c.requires.labels)

pub returns-in_err-take_in-clause-from : goal.returns-in_err-take_in-clause-from
returns-in_err-take_in-clause-from g c a m = c.loop-label.invariant.from a (subst (λ (xs : List (g.row.R-Value.Denot × LabelWalk)). Member xs a) c.in_err-take_in.ensures.err m)

pub returns-in_err-take_in-clause-err : goal.returns-in_err-take_in-clause-err
returns-in_err-take_in-clause-err g c =
    on_err c.from_residual-in_err-take_in.result
    (subst (λ (xs : List (g.row.R-Value.Denot × LabelWalk)). IsPermutation (vectors_of c.args.labels.now) (vectors_of xs)) (sym c.in_err-take_in.ensures.err) c.loop-label.invariant.vectors)
