use Rattle.std.proofs.Common.{◌≡◌, ◌⊎◌, inl, inr, ℕ, ◌+◌, ◌-◌, ◌<◌, ◌≤◌, get_or, length, refl, sym, ◌∙◌, subst, ⊎_elim, arith, List}
use Rattle.std.proofs.lemmas.List.{length-set}
use Rattle.crew_ready.proofs.Lowered.{one-lower}
use Rattle.crew_ready.proofs.counts.lower_all.Goals as goal

pub loop-place-init : goal.loop-place-init
loop-place-init c = (refl, λ k a b. absurd (omega (arith, a, b)), λ k h. refl)

pub loop-place-preserved : goal.loop-place-preserved
loop-place-preserved c =
    let was = c.args.counts.now in
    let now = c.loop-place.counts in
    let i = c.loop-place.place in
    let low = c.loop-place.auto.place in
    let high = c.loop-place-test.true in
    let most = c.requires.within in
    let long = c.loop-place.invariant.0 in
    let step = one-lower was now c.args.window.from i low (omega (arith, high, most, long)) c.loop-place.invariant.1 c.loop-place.invariant.2 in
    subst (λ (z : List ℕ). (length z ≡ length was) × ((k : ℕ) → c.args.window.from ≤ k → k < i + 1 → get_or z k 0 ≡ get_or was k 0 - 1) × ((k : ℕ) → (k < c.args.window.from) ⊎ (i + 1 ≤ k) → get_or z k 0 ≡ get_or was k 0))
    (sym c.lower.ensures)
    (length-set now i (get_or now i 0 - 1) ∙ long, step.0, step.1)

pub returns-clause-lowered : goal.returns-clause-lowered
returns-clause-lowered c = λ k a b. c.loop-place.invariant.1 k a (let h = c.loop-place-test.false in omega (arith, b, h))

pub returns-clause-elsewhere : goal.returns-clause-elsewhere
returns-clause-elsewhere c = λ k h.
    let e = c.loop-place.auto.place-end in
    let past = c.loop-place-test.false in
    c.loop-place.invariant.2 k (⊎_elim {C = (k < c.args.window.from) ⊎ (c.loop-place.place ≤ k)} inl (λ z. inr (at-end k c z)) h)
  where
    at-end : (k : ℕ) (c : goal.After-loop-place) → c.args.window.end ≤ k → c.loop-place.place ≤ k
    at-end k c h = let top = c.loop-place.auto in omega (arith, h, top)
