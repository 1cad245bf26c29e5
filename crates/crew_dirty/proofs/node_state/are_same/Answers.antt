use Rattle.std.proofs.Common.{◌≡◌, ◌∙◌, ℕ, get_or, inl, inr, sym, subst}
use Rattle.crew_dirty.specs.declared.node_state.NodeState.TheVariants.{Same}
use Rattle.crew_resource.proofs.Members.{Member-get}
use Rattle.crew_dirty.proofs.Taken.{taken-more}
use Rattle.crew_dirty.proofs.node_state.are_same.Goals as goal

pub returns-then-not-same : goal.returns-then-not-same
returns-then-not-same g c = (
  λ z. absurd (let q : ⊥ = (cc) in q),
  λ all.
      let rank = get_or c.args.ranks.now c.loop-rank.rank-index 0 in
      let here = all rank (Member-get c.args.ranks.now c.loop-rank.rank-index 0 c.loop-rank-test.true) in
      sym c.if-not-same.true ∙ c.is_same-same.ensures.1 (c.state.ensures ∙ here),
)

pub loop-rank-preserved : goal.loop-rank-preserved
loop-rank-preserved g c = λ rank m.
    elim (taken-more c.args.ranks.now c.loop-rank.rank-index c.loop-rank-test.true rank m) as (λ _. g.S.NodeStates.state_at c.args.states.now c.args.base rank ≡ Same) [
      | inl k ↦ c.loop-rank.invariant rank k
      | inr e ↦ subst (λ (r : ℕ). g.S.NodeStates.state_at c.args.states.now c.args.base r ≡ Same) e (sym c.state.ensures ∙ c.is_same-same.ensures.0 c.if-not-same.false)
    ]
