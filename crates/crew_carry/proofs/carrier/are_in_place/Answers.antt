use Rattle.std.proofs.Common.{◌≡◌, ◌+◌, ◌++◌, ◌∷◌, [], Some, List, subst, sym, take, ⊎_elim, ◌∙◌}
use Rattle.std.specs.Prelude.{slice_get}
use Rattle.std.proofs.lemmas.List.{take_more}
use Rattle.crew_pool.specs.declared.label_walk.LabelWalk.{LabelWalk}
use Rattle.crew_resource.specs.Members.{Member}
use Rattle.crew_resource.proofs.Members.{Member-append, Member-get_or}
use Rattle.crew_carry.proofs.carrier.are_in_place.Goals as goal

pub is_own-requires : goal.is_own-requires
is_own-requires g c = c.requires c.label-item.result (Member-get_or c.args.labels.now c.loop-label.label-index c.label-item.result c.loop-label-test.true (sym c.label-item.is))

pub loop-label-preserved : goal.loop-label-preserved
loop-label-preserved g c m k =
    let Label = g.row.R-Value.Denot × LabelWalk in
    let labels : List Label = c.args.labels.now in
    let i = c.loop-label.label-index in
    let at = λ (l : Label). slice_get c.args.places.now l.1.walk ≡ Some (Some l.1.walk) in
    let more : take (i + 1) labels ≡ take i labels ++ c.label-item.result ∷ [] = take_more labels i c.label-item.result c.loop-label-test.true ∙ (λ j. take i labels ++ (sym c.label-item.is) j ∷ []) in
    ⊎_elim {C = at m} (λ o. c.loop-label.invariant m o)
    (λ n. ⊎_elim {C = at m} (λ e. subst at e (c.is_own.ensures c.if-not-is_own.false)) (λ b. absurd b) n)
    (Member-append (take i labels) (c.label-item.result ∷ []) m (subst (λ (ls : List Label). Member ls m) more k))
