use Rattle.std.proofs.Common.{◌≡◌, ◌∙◌, ℕ, List, inl, inr, sym, subst, ap, arith, refl}
use Rattle.std.specs.Prelude.{slice_get}
use Rattle.std.proofs.lemmas.Bool.Decides.{eqb_tells}
use Rattle.crew_dirty.specs.declared.node_state.NodeState.TheVariants.{Same}
use Rattle.crew_net.proofs.InTime.{item-at}
use Rattle.crew_resource.specs.Members.{Member}
use Rattle.crew_dirty.proofs.carried.are_same_before.Goals as goal

pub returns-then-not-same : goal.returns-then-not-same
returns-then-not-same g c = (
  λ z. absurd (let q : ⊥ = (cc) in q),
  λ all.
      let net = c.args.net.now in
      let k = c.loop-arrival.arrival in
      let below = c.loop-arrival-test.true in
      let end = c.requires.within in
      let x = item-at net.arrivals k (omega (arith, below, end)) in
      sym c.if-not-same.true ∙ c.are_same-same.ensures.1 (λ rank m. all k rank x.0 c.loop-arrival.auto.arrival below x.1 (subst (λ (rs : List ℕ). Member rs rank) (c.arriving.ensures x.0 x.1) m)),
)

pub loop-arrival-preserved : goal.loop-arrival-preserved
loop-arrival-preserved g c = λ k rank x low high at m.
    elim (eqb_tells k c.loop-arrival.arrival) as (λ _. g.S.NodeStates.state_at c.args.states.now c.args.base rank ≡ Same) [
      | inl e ↦
          let here = ap (slice_get c.args.net.now.arrivals) (sym e.1) ∙ at in
          c.are_same-same.ensures.0 c.if-not-same.false rank (subst (λ (rs : List ℕ). Member rs rank) (sym (c.arriving.ensures x here)) m)
      | inr f ↦ c.loop-arrival.invariant k rank x low (let ne = f.1 in omega (arith, high, ne)) at m
    ]

pub returns : goal.returns
returns g c = (
  λ z k rank x low high at m. c.loop-arrival.invariant k rank x low (let all = c.loop-arrival-test.false in omega (arith, high, all)) at m,
  λ all. refl,
)
