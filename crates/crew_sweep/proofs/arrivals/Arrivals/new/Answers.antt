use Rattle.std.proofs.Common.{◌≡◌, ◌∙◌, ◌+◌, ◌++◌, ◌∷◌, List, [], length, length-append, ap, subst, sym, ⊎_elim}
use Rattle.crew_pairing.specs.declared.vector.PairingVector.{PairingVector}
use Rattle.crew_pool.specs.declared.label_walk.LabelWalk.{LabelWalk}
use Rattle.crew_resource.specs.Members.{Member}
use Rattle.crew_resource.proofs.Members.{Member-append}
use Rattle.crew_sweep.proofs.arrivals.Arrivals.new.Goals as goal

pub loop-preserved : goal.loop-preserved
loop-preserved c =
    let Labels = List (PairingVector × LabelWalk) in
    let before = c.loop.pools.items in
    let x = c.new.result in
    let long : length (before ++ x ∷ []) ≡ c.loop.counter + 1 = length-append before (x ∷ []) ∙ ap (λ n. n + 1) c.loop.invariant.0 in
    let empty = λ (labels : Labels) (m : Member (before ++ x ∷ []) labels). ⊎_elim {C = labels ≡ []} (c.loop.invariant.1 labels) (λ k. ⊎_elim {C = labels ≡ []} (λ e. sym e ∙ c.new.ensures) (λ b. absurd b) k) (Member-append before (x ∷ []) labels m) in
    subst (λ (es : List Labels). (length es ≡ c.loop.counter + 1) × ((labels : Labels) → Member es labels → labels ≡ [])) (sym c.in_ok-push.ensures.items) (long, empty)
