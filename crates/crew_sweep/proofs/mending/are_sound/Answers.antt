use Rattle.std.proofs.Common.{◌≡◌, ◌∙◌, ◌+◌, ◌≤◌, ◌⊎◌, ◌++◌, ◌∷◌, [], List, arith, inl, inr, subst, sym, take, true, ⊎_elim}
use Rattle.std.proofs.lemmas.List.{take_more}
use Rattle.crew_pairing.specs.declared.vector.PairingVector.{PairingVector}
use Rattle.crew_pool.specs.Arena.{walk_at}
use Rattle.crew_pool.specs.declared.label_walk.LabelWalk.{LabelWalk}
use Rattle.crew_resource.specs.Members.{Member}
use Rattle.crew_resource.proofs.Members.{Member-append, Member-get_or}
use Rattle.crew_sweep.specs.Machinery.Mending.{ends_unchanged}
use Rattle.crew_sweep.proofs.mending.are_sound.Goals.{else-walk-added-via-then-walk-added+else-not-ends_unchanged, else-walk-added-via-else-walk-added}
use Rattle.crew_sweep.proofs.mending.are_sound.Goals as goal

pub ends_unchanged-requires-clause-there : goal.ends_unchanged-requires-clause-there
ends_unchanged-requires-clause-there c = c.requires.there c.label-item.result (Member-get_or c.args.labels.now c.loop-label.label-index c.label-item.result c.loop-label-test.true (sym c.label-item.is))

pub ends_unchanged-requires-clause-ranks : goal.ends_unchanged-requires-clause-ranks
ends_unchanged-requires-clause-ranks c = c.requires.ranks c.label-item.result (Member-get_or c.args.labels.now c.loop-label.label-index c.label-item.result c.loop-label-test.true (sym c.label-item.is))

pub loop-label-preserved : goal.loop-label-preserved
loop-label-preserved c m k =
    let labels = c.args.labels.now in
    let i = c.loop-label.label-index in
    let item = c.label-item.result in
    let at = λ (l : PairingVector × LabelWalk). (c.args.added ≤ l.1.walk) ⊎ (ends_unchanged c.args.twins.now c.args.changed.now c.args.places.now (walk_at c.args.walks.now l.1.walk) ≡ true) in
    let more : take (i + 1) labels ≡ take i labels ++ item ∷ [] = take_more labels i item c.loop-label-test.true ∙ (λ j. take i labels ++ (sym c.label-item.is) j ∷ []) in
    let this : at item = elim c.else-walk-added.branch [
      | else-walk-added-via-then-walk-added+else-not-ends_unchanged w ↦ inr (sym w.ends_unchanged.ensures ∙ w.if-not-ends_unchanged.false)
      | else-walk-added-via-else-walk-added w ↦ inl (let h = w.if-walk-added.false in omega (arith, h))
    ] in
    ⊎_elim {C = at m} (λ o. c.loop-label.invariant m o)
    (λ n. ⊎_elim {C = at m} (λ e. subst at e this) (λ b. absurd b) n)
    (Member-append (take i labels) (item ∷ []) m (subst (λ (ls : List (PairingVector × LabelWalk)). Member ls m) more k))
