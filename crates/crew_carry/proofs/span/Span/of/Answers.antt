use Rattle.std.proofs.Common.{◌≡◌, ◌+◌, ◌++◌, ◌∷◌, [], List, subst, sym, take, ⊎_elim, ◌∙◌}
use Rattle.std.proofs.lemmas.List.{take_all, take_more}
use Rattle.crew_pool.specs.declared.label_walk.LabelWalk.{LabelWalk}
use Rattle.crew_resource.specs.Members.{Member}
use Rattle.crew_resource.proofs.Members.{Member-append}
use Rattle.crew_carry.specs.Spans.{StandsWithin}
use Rattle.crew_carry.proofs.span.Span.of.Goals as goal

pub loop-label-preserved : goal.loop-label-preserved
loop-label-preserved g c m k =
    let Label = g.row.R-Value.Denot × LabelWalk in
    let labels : List Label = c.as_slice-label-items.result.now in
    let i = c.loop-label.label-index in
    let x = c.label-item.result in
    let In = λ (l : Label). StandsWithin c.with-span.result l.1.walk in
    let more : take (i + 1) labels ≡ take i labels ++ x ∷ [] = take_more labels i x c.loop-label-test.true ∙ (λ j. take i labels ++ (sym c.label-item.is) j ∷ []) in
    ⊎_elim {C = In m} (λ o. c.with-span.ensures.before m.1.walk (c.loop-label.invariant m o))
    (λ n. ⊎_elim {C = In m} (λ e. subst In e c.with-span.ensures.own) (λ b. absurd b) n)
    (Member-append (take i labels) (x ∷ []) m (subst (λ (ls : List Label). Member ls m) more k))

pub returns : goal.returns
returns g c l m =
    let Label = g.row.R-Value.Denot × LabelWalk in
    let labels : List Label = c.as_slice-label-items.result.now in
    let all = take_all c.loop-label.label-index labels c.loop-label-test.false in
    c.loop-label.invariant l (subst (λ (ls : List Label). Member ls l) (sym (all ∙ c.as_slice-label-items.ensures.all)) m)
