use Rattle.std.proofs.Common.{ℕ, List, [], ◌∷◌, ◌++◌, Vec, Global, refl, sym, subst, ◌∙◌, ⊎_elim}
use Rattle.std.proofs.lemmas.List.{map-id}
use Rattle.std.proofs.lemmas.Iterator.Adapters.{YieldsList-from_vec}
use Rattle.std.proofs.lemmas.Iterator.Consumers.{YieldsList-end}
use Rattle.crew_label.specs.Machinery.Indexes.{IsPlaced}
use Rattle.crew_label.proofs.Held.{placed_split}
use Rattle.crew_label.proofs.index.groups_of.Goals as goal

pub loop-part-preserved : goal.loop-part-preserved
loop-part-preserved g c e m h = ⊎_elim
    (λ k. c.in_ok-push_group.ensures.stays e (c.loop-part.invariant e m k))
    (λ k. c.in_ok-push_group.ensures.held e m k)
    (placed_split c.loop-part.yielded (c.loop-part.yielded ++ c.in-Some.part ∷ []) c.in-Some.part e.place refl h)

pub returns : goal.returns
returns g c e m h =
    let v = c.args.parts in
    let gives = c.into_iter-part-iterator.ensures.into_iter_gives in
    let all = YieldsList-end (YieldsList-from_vec {s = c.into_iter-part-iterator.result} v.items gives.0 (gives.1 ∙ v.ok.0)) c.loop-part.yielded c.loop-part.part-iterator c.loop-part.yielded_by c.next.result c.next.new.self c.in-None.is c.next.ensures.steps in
    c.loop-part.invariant e m (subst (λ (ps : List (Vec ℕ Global)). IsPlaced ps e.place) (sym (sym (map-id c.loop-part.yielded) ∙ all.0)) h)
