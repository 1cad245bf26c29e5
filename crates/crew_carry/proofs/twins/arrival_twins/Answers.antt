use Rattle.std.proofs.Common.{◌≡◌, ap, ◌+◌, ◌++◌, ◌∷◌, [], ◌∙◌, ℕ, List, Option, Some, inl, inr, length, length-append, arith, sym, subst}
use Rattle.std.specs.Prelude.{IfSome, slice_get}
use Rattle.std.proofs.lemmas.Bool.{cases_lt}
use Rattle.crew_net.specs.Events.{arrival_cmp}
use Rattle.crew_net.specs.Nets.{Net}
use Rattle.crew_pairing.specs.declared.events.Arrival.{Arrival}
use Rattle.crew_step.proofs.Loops.{item-at}
use Rattle.crew_carry.specs.Machinery.Matches.{AreMatches}
use Rattle.crew_carry.specs.Twins.{HaveSameArriving}
use Rattle.crew_carry.proofs.Pushed.{pushed-before, pushed-last, pushed-out, some-is}
use Rattle.crew_carry.proofs.Ties.{arrival-found, arrival-tie}
use Rattle.crew_carry.proofs.twins.arrival_twins.Goals as goal

kept : (old new : Net) (place p : ℕ) (o : Option ℕ) (q : ℕ) → p ≡ place → o ≡ Some q
    → IfSome o (λ k. (x : Arrival) × (slice_get old.arrivals k ≡ Some x) × (slice_get new.arrivals place ≡ Some x) × HaveSameArriving old new x)
    → (x : Arrival) × (slice_get old.arrivals q ≡ Some x) × (slice_get new.arrivals p ≡ Some x) × HaveSameArriving old new x
kept old new place p o q at e h =
    let At : ℕ → ℕ → Type 0 = λ k n. (x : Arrival) × (slice_get old.arrivals k ≡ Some x) × (slice_get new.arrivals n ≡ Some x) × HaveSameArriving old new x in
    subst (At q) (sym at) (subst (λ (z : Option ℕ). IfSome z (λ k. At k place)) e h)

pub arrival_twin-requires-clause-found : goal.arrival_twin-requires-clause-found
arrival_twin-requires-clause-found c =
    let matches = c.in_ok-matches.matches.items in
    let i = c.loop-place.place in
    let here = item-at matches i c.index.result.now (let a = c.loop-place-test.true in let b = c.len-place-end.ensures in let d = c.in_ok-matches.matches.ok.0 in omega (arith, a, b, d)) c.index.ensures in
    let m = subst (λ (xs : List Arrival). AreMatches arrival_cmp xs c.args.old.now.arrivals matches) c.arrivals.ensures.events
    (subst (λ (ys : List Arrival). AreMatches arrival_cmp c.arrivals.result.now ys matches) c.arrivals-2.ensures.events c.in_ok-matches.ensures) in
    arrival-found c.args.new.now.arrivals c.args.old.now.arrivals matches m i c.index.result.now here

pub loop-place-preserved : goal.loop-place-preserved
loop-place-preserved c =
    let inv = c.loop-place.invariant in
    let twins = c.loop-place.twins.items in
    let o = c.arrival_twin.result in
    let Kept : List (Option ℕ) → Type 0 = λ items. (p q : ℕ) → slice_get items p ≡ Some (Some q)
    → (x : Arrival) × (slice_get c.args.old.now.arrivals q ≡ Some x) × (slice_get c.args.new.now.arrivals p ≡ Some x) × HaveSameArriving c.args.old.now c.args.new.now x in
    let long : length (twins ++ o ∷ []) ≡ c.loop-place.place + 1 = (let a = length-append twins (o ∷ []) in let b = inv.0 in omega (arith, a, b)) in
    let pushed = sym c.in_ok-push.ensures.items in (
      subst (λ (items : List (Option ℕ)). length items ≡ c.loop-place.place + 1) pushed long,
      subst Kept pushed (λ p q e.
          elim (pushed-out twins o p (Some q) e) [
            | inl h ↦ inv.1 p q h
            | inr h ↦ kept c.args.old.now c.args.new.now c.loop-place.place p o q (h.0 ∙ inv.0) h.1 c.arrival_twin.ensures.same
          ]),
      λ ro rn p q x h at-old at-new same.
          let place = c.loop-place.place in
          let matches = c.in_ok-matches.matches.items in
          let new = c.args.new.now in
          let old = c.args.old.now in
          let m = subst (λ (xs : List Arrival). AreMatches arrival_cmp xs old.arrivals matches) c.arrivals.ensures.events
          (subst (λ (ys : List Arrival). AreMatches arrival_cmp c.arrivals.result.now ys matches) c.arrivals-2.ensures.events c.in_ok-matches.ensures) in
          let read = item-at matches place c.index.result.now (let a = c.loop-place-test.true in let b = c.len-place-end.ensures in let d = c.in_ok-matches.matches.ok.0 in omega (arith, a, b, d)) c.index.ensures in
          subst (λ (items : List (Option ℕ)). slice_get items p ≡ Some (Some q)) pushed
          (elim (cases_lt p place) [
            | inl l ↦ pushed-before twins o p (Some q) (inv.2 ro rn p q x l at-old at-new same)
            | inr g ↦
                let e : p ≡ place = omega (arith, g, h) in
                let here : slice_get new.arrivals place ≡ Some x = subst (λ (n : ℕ). slice_get new.arrivals n ≡ Some x) e at-new in
                let few = c.arrivals-2.ensures.few in
                let found = m.all c.arrivals.ensures.exact.rising c.arrivals-2.ensures.exact.rising (omega (arith, few)) place q (x, x, here, at-old, arrival-tie x) in
                let is = some-is matches place c.index.result.now (Some q) read found in
                pushed-last twins o p (e ∙ sym inv.0) ∙ ap (λ (z : Option ℕ). Some z) (c.arrival_twin.ensures.all ro rn q x is here same)
          ]),
    )
