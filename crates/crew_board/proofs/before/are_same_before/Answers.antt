use Rattle.std.proofs.Common.{◌≡◌, ◌∙◌, inl, inr, refl, sym, subst, true≢false, arith}
use Rattle.crew_board.proofs.Arriving.{all-arrived, arrived-all}
use Rattle.crew_board.specs.Machinery.Turns.{AreSameIfBefore}
use Rattle.crew_net.proofs.Segments.{le-or-lt}
use Rattle.crew_board.proofs.before.are_same_before.Goals as goal

pub loop-arrival-init : goal.loop-arrival-init
loop-arrival-init c = λ k from low. absurd (omega (arith, from, low))

pub returns-then-not-are_same_if_before : goal.returns-then-not-are_same_if_before
returns-then-not-are_same_if_before c = (
  λ t. absurd (true≢false (sym t)),
  λ all. absurd (true≢false (sym (c.are_same_if_before.ensures.1 (arrived-all c.args.net.now c.args.marks.now.same c.args.duty.now c.args.first all c.loop-arrival.arrival)) ∙ c.if-not-are_same_if_before.true)),
)

pub loop-arrival-preserved : goal.loop-arrival-preserved
loop-arrival-preserved c = λ k from low.
    elim (le-or-lt c.loop-arrival.arrival k) as (λ _. AreSameIfBefore c.args.marks.now.same c.args.net.now c.args.duty.now c.args.first k) [
      | inl l ↦
          let here : k ≡ c.loop-arrival.arrival = omega (arith, l, low) in
          subst (AreSameIfBefore c.args.marks.now.same c.args.net.now c.args.duty.now c.args.first) (sym here) (c.are_same_if_before.ensures.0 c.if-not-are_same_if_before.false)
      | inr l ↦ c.loop-arrival.invariant k from l
    ]

pub returns : goal.returns
returns c = (
  λ t. all-arrived c.args.net.now c.args.marks.now.same c.args.duty.now c.args.first c.arrivals-arrivals.ensures.exact (λ k low x at may. (
      let w = c.arrivals_before-window.ensures.all k x at may in
      let within = w.1 in
      let past = c.loop-arrival-test.false in
      c.loop-arrival.invariant k w.0 (omega (arith, within, past)) x at may)),
  λ all. refl,
)
