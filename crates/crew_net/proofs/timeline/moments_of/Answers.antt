use Rattle.std.proofs.Common.{rules, ◌≡◌, ◌<◌, ◌-◌, ◌+◌, ◌∙◌, ◌++◌, ◌∷◌, [], IsTrue, List, ℤ, arith, get_or, length, map, not, subst, sym, to_z, of_z, w64}
use Rattle.std.proofs.lemmas.Int.{ints}
use Rattle.std.proofs.lemmas.List.{get_or-map, length-map}
use Rattle.crew_net.specs.Machinery.Moments.{AreStarts, keyed_slot}
use Rattle.crew_net.specs.Machinery.Moments.{Slot}
use Rattle.crew_net.proofs.Moments.{SoFar, all-moments, all-starts, new-moment, same-moment}
use Rattle.crew_net.proofs.timeline.moments_of.Goals.{then-not-ends_at+in_ok-push+in_ok-push-2, else-not-ends_at}
use Rattle.crew_net.proofs.timeline.moments_of.Goals as goal

pub loop-place-preserved : goal.loop-place-preserved
loop-place-preserved c =
    let keys = c.args.keys.now in
    let slots = map keyed_slot keys in
    let n = c.loop-place.place in
    let ms = c.loop-place.moments.items in
    let starts = c.loop-place.starts.items in
    let at = c.keyed_at-at.result in
    let long = length-map keys keyed_slot in
    let within : n < length keys = c.loop-place-test.true in
    let low : n < length slots = omega (arith, long, within) in
    let own : (d : Slot) → (get_or slots n d).at ≡ at = λ d. (let e = get_or-map keyed_slot keys n 0 d within in (λ i. (e i).at) ∙ sym c.keyed_at-at.ensures.value) in
    let shown = c.deref.ensures.value in
    let same-at : to_z w64 (of_z w64 at) ≡ at = omega (arith, ints, c.keyed_at-at.ensures.least, c.keyed_at-at.ensures.most) in
    elim c.if-not-ends_at.branch [
      | then-not-ends_at+in_ok-push+in_ok-push-2 w ↦ (
          let other : IsTrue (not c.ends_at.result) = search rules in
          let apart : (e : ℤ) → 0 < length ms → get_or ms (length ms - 1) e ≡ at → ⊥ = λ e. subst (λ (l : List ℤ). 0 < length l → get_or l (length l - 1) e ≡ at → ⊥) shown (subst (λ (x : ℤ). 0 < length c.deref.result.now → get_or c.deref.result.now (length c.deref.result.now - 1) e ≡ x → ⊥) same-at (c.ends_at.ensures.other e other)) in
          let ms' : c.if-not-ends_at.moments.items ≡ ms ++ at ∷ [] = search rules in
          let starts' : c.if-not-ends_at.starts.items ≡ starts ++ n ∷ [] = search rules in
          subst (λ (l : List ℤ). SoFar slots (n + 1) l c.if-not-ends_at.starts.items) (sym ms') (subst (SoFar slots (n + 1) (ms ++ at ∷ [])) (sym starts') (new-moment slots c.requires.ascend n ms starts c.loop-place.invariant at low own apart)))
      | else-not-ends_at w ↦ (
          let same : IsTrue c.ends_at.result = search rules in
          let some : 0 < length ms = subst (λ (l : List ℤ). 0 < length l) shown (c.ends_at.ensures.some same) in
          let last : (e : ℤ) → get_or ms (length ms - 1) e ≡ at = λ e. subst (λ (l : List ℤ). get_or l (length l - 1) e ≡ at) shown (c.ends_at.ensures.same e same ∙ same-at) in
          let ms' : c.if-not-ends_at.moments.items ≡ ms = search rules in
          let starts' : c.if-not-ends_at.starts.items ≡ starts = search rules in
          subst (λ (l : List ℤ). SoFar slots (n + 1) l c.if-not-ends_at.starts.items) (sym ms') (subst (SoFar slots (n + 1) ms) (sym starts') (same-moment slots c.requires.ascend n ms starts c.loop-place.invariant at low own some last)))
    ]

pub returns-clause-moments : goal.returns-clause-moments
returns-clause-moments c =
    let keys = c.args.keys.now in
    let long = length-map keys keyed_slot in
    all-moments (map keyed_slot keys) c.loop-place.place c.loop-place.moments.items c.loop-place.starts.items c.loop-place.invariant (omega (arith, long, c.loop-place-test.false, c.loop-place.auto.place-end))

pub returns-clause-starts : goal.returns-clause-starts
returns-clause-starts c =
    let keys = c.args.keys.now in
    let slots = map keyed_slot keys in
    let long = length-map keys keyed_slot in
    let end : c.push-2.new.self.items ≡ c.loop-place.starts.items ++ length keys ∷ [] = search rules in
    subst (AreStarts slots c.loop-place.moments.items) (sym end)
    (all-starts slots c.loop-place.place c.loop-place.moments.items c.loop-place.starts.items c.loop-place.invariant (omega (arith, long, c.loop-place-test.false, c.loop-place.auto.place-end)) (length keys) (sym long))
