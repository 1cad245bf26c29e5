use Rattle.std.proofs.Common.{◌≡◌, ◌+◌, ◌++◌, ◌∷◌, ◌∙◌, [], Bor, List, Some, ap, map, subst, sym, take, ℕ}
use Rattle.std.specs.Prelude.{slice_get}
use Rattle.std.specs.List.Sorted.{IsPermutation}
use Rattle.std.proofs.lemmas.List.{map-append, take_all}
use Rattle.std.proofs.lemmas.List.Sorted.{IsPermutation-map}
use Rattle.crew_pool.specs.declared.label_walk.LabelWalk.{LabelWalk}
use Rattle.crew_step.proofs.Loops.{item-at, take-grown}
use Rattle.crew_carry.proofs.alike.by_vector.Goals as goal

pushed-more : {X : Type 0} (xs : List X) (i : ℕ) (was now : List (Bor X)) (b : Bor X) → slice_get xs i ≡ Some b.now → now ≡ was ++ b ∷ [] → map (λ r. r.now) was ≡ take i xs → map (λ r. r.now) now ≡ take (i + 1) xs
pushed-more {X} xs i was now b at n e =
    let read : Bor X → X = λ r. r.now in
    ap (map read) n ∙ (map-append read was (b ∷ []) ∙ (ap (λ ls. ls ++ b.now ∷ []) e ∙ sym (take-grown xs i b.now at)))

pub loop-label-init : goal.loop-label-init
loop-label-init g c =
    let now : Bor (g.row.R-Value.Denot × LabelWalk) → g.row.R-Value.Denot × LabelWalk = λ b. b.now in
    ap (map now) c.in_ok-sorted.ensures.items

pub loop-label-preserved : goal.loop-label-preserved
loop-label-preserved g c =
    let labels = c.args.labels.now in
    let i = c.loop-label.label-index in
    let at = item-at labels i c.label-item.result c.loop-label-test.true c.label-item.is in
    pushed-more labels i c.loop-label.sorted.items c.push.new.self.items _ at c.in_ok-push.ensures.items c.loop-label.invariant

pub returns : goal.returns
returns g c =
    let Label = g.row.R-Value.Denot × LabelWalk in
    let now : Bor Label → Label = λ b. b.now in
    let sorted = c.sort_unstable_by.new.self.items in
    subst (λ (ls : List Label). IsPermutation ls (map now sorted)) (c.loop-label.invariant ∙ take_all c.loop-label.label-index c.args.labels.now c.loop-label-test.false)
    (IsPermutation-map now c.loop-label.sorted.items sorted c.sort_unstable_by.ensures.permutation)
