use Rattle.std.proofs.Common.{ℕ, ◌+◌, List, [], ◌∷◌, ◌++◌, Vec, Global, take, refl, sym, ◌∙◌, ap, subst, ⊎_elim}
use Rattle.std.proofs.lemmas.List.{take_more}
use Rattle.crew_resource.specs.Members.{Member}
use Rattle.crew_label.specs.Machinery.Indexes.{IsPlaced}
use Rattle.crew_label.proofs.Held.{placed_split}
use Rattle.crew_label.proofs.Listed.{taken_all}
use Rattle.crew_label.proofs.blocks.blocks_of.Goals as goal

pub loop-part-preserved : goal.loop-part-preserved
loop-part-preserved g c e m h =
    let parts = c.args.parts.now in
    let i = c.loop-part.part-index in
    let part = c.part-item.result in
    ⊎_elim
    (λ k. c.in_ok-push_block.ensures.stays e (c.loop-part.invariant e m k))
    (λ k. c.in_ok-push_block.ensures.held e m (subst (λ (ks : List ℕ). Member ks e.place) (sym c.deref.ensures.value) k))
    (placed_split (take i parts) (take (i + 1) parts) part e.place
    (take_more parts i part c.loop-part-test.true ∙ ap (λ (z : Vec ℕ Global). take i parts ++ z ∷ []) (sym c.part-item.is)) h)

pub returns : goal.returns
returns g c e m h =
    c.loop-part.invariant e m (subst (λ (ps : List (Vec ℕ Global)). IsPlaced ps e.place) (sym (taken_all c.args.parts.now c.args.parts.now c.loop-part.part-index refl c.loop-part-test.false)) h)
