use Rattle.std.proofs.Common.{◌≡◌, ◌+◌, ◌<◌, ◌≤◌, ◌∙◌, List, Ordering, Some, ap, arith, false, inl, inr, length, refl, subst, sym, true, ℕ}
use Rattle.std.specs.Ordering.{is_lt}
use Rattle.std.specs.Prelude.{slice_get}
use Rattle.std.specs.declared.cmp.Ordering.TheVariants.{Equal, Greater, Less}
use Rattle.std.proofs.lemmas.Bool.{cases_lt}
use Rattle.std.proofs.lemmas.Option.{slice_get_within}
use Rattle.crew_carry.proofs.Pushed.{some-is}
use Rattle.crew_pairing.specs.Keys.{key_cmp}
use Rattle.crew_pairing.specs.declared.duty.Duty.{Duty}
use Rattle.crew_carry.proofs.ranks.first_from.Goals as goal

abbrev by_key : Duty → Duty → Ordering
by_key d e = key_cmp d.key e.key

less-is : (o : Ordering) → is_lt o ≡ true → o ≡ Less
less-is Less e = refl
less-is Equal e = absurd (let q : ⊥ = (cc) in q)
less-is Greater e = absurd (let q : ⊥ = (cc) in q)

module _ {X : Type 0} (order : X → X → Ordering) (ys : List X) (x : X) (at : ℕ) (here : X) (item : slice_get ys at ≡ Some here) where
  -- one more that is less
  passed : (from : ℕ) → ((k : ℕ) (y : X) → from ≤ k → k < at → slice_get ys k ≡ Some y → order y x ≡ Less) → is_lt (order here x) ≡ true
      → (k : ℕ) (y : X) → from ≤ k → k < at + 1 → slice_get ys k ≡ Some y → order y x ≡ Less
  passed from before less k y h l e =
      elim (cases_lt k at) [
        | inl b ↦ before k y h b e
        | inr g ↦
            let last : k ≡ at = omega (arith, l, g) in
            let same : here ≡ y = some-is ys at here y item (subst (λ (n : ℕ). slice_get ys n ≡ Some y) last e) in
            ap (λ z. order z x) (sym same) ∙ less-is (order here x) less
      ]

  -- what stands there is no less
  stopped : is_lt (order here x) ≡ false → (y : X) → slice_get ys at ≡ Some y → order y x ≡ Less → ⊥
  stopped not y e less =
      let same : here ≡ y = some-is ys at here y item e in
      let is : order here x ≡ Less = ap (λ z. order z x) same ∙ less in
      let yes : is_lt (order here x) ≡ true = ap is_lt is in
      let q : ⊥ = (cc) in
      q

past : {X : Type 0} (ys : List X) (at : ℕ) → length ys ≤ at → (y : X) → slice_get ys at ≡ Some y → ⊥
past ys at end y e =
    let within = slice_get_within ys at y e in
    omega (arith, within, end)

pub at-requires : goal.at-requires
at-requires c = omega (arith, c.loop-at-test.true, c.len.ensures)

pub loop-at-preserved : goal.loop-at-preserved
loop-at-preserved c =
    let inv = c.loop-at.invariant in
    let ys = c.args.ys.now in
    let at = c.loop-at.at in
    let y = c.at.result.now in
    let item = c.at.ensures in
    let less = ap is_lt (sym c.cmp.ensures) ∙ (sym c.is_lt.ensures ∙ c.if-is_lt.true) in
    let long : c.loop-at.at < length c.args.ys.now = omega (arith, c.loop-at-test.true, c.len.ensures) in
    let far = inv.0 in
    (omega (arith, far), omega (arith, long), passed by_key ys c.args.x.now at y item c.args.from inv.2 less)

pub returns-else-is_lt-clause-within : goal.returns-else-is_lt-clause-within
returns-else-is_lt-clause-within c = (c.loop-at.invariant.0, c.loop-at.invariant.1)

pub returns-else-is_lt-clause-before : goal.returns-else-is_lt-clause-before
returns-else-is_lt-clause-before c = c.loop-at.invariant.2

pub returns-else-is_lt-clause-there : goal.returns-else-is_lt-clause-there
returns-else-is_lt-clause-there c =
    let ys = c.args.ys.now in
    let at = c.loop-at.at in
    let y = c.at.result.now in
    let item = c.at.ensures in
    stopped by_key ys c.args.x.now at y item (ap is_lt (sym c.cmp.ensures) ∙ (sym c.is_lt.ensures ∙ c.if-is_lt.false))

pub returns-after-loop-at-clause-within : goal.returns-after-loop-at-clause-within
returns-after-loop-at-clause-within c = (c.loop-at.invariant.0, c.loop-at.invariant.1)

pub returns-after-loop-at-clause-before : goal.returns-after-loop-at-clause-before
returns-after-loop-at-clause-before c = c.loop-at.invariant.2

pub returns-after-loop-at-clause-there : goal.returns-after-loop-at-clause-there
returns-after-loop-at-clause-there c = λ y e less. past c.args.ys.now c.loop-at.at (omega (arith, c.loop-at-test.false, c.len.ensures)) y e
