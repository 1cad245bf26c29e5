use Rattle.std.proofs.Common.{◌≡◌, ◌∙◌, ◌⊎◌, ◌<◌, ◌+◌, ℕ, [], get_or, inl, inr, sym, subst, ⊎_elim, arith}
use Rattle.std.proofs.lemmas.Bool.Decides.{eqb_tells}
use Rattle.crew_answers.proofs.LongListed.{value_cmp}
use Rattle.crew_label.specs.Pools.{AreRising}
use Rattle.crew_fronts.proofs.passed_fronts.list.Goals as goal

next : (k n : ℕ) → k < n + 1 → (k < n) ⊎ (n ≡ k)
next k n h = ⊎_elim {C = (k < n) ⊎ (n ≡ k)} (λ e. inr (sym e.1)) (λ e. inl (let d = e.1 in omega (arith, h, d))) (eqb_tells k n)

pub loop-rank-preserved : goal.loop-rank-preserved
loop-rank-preserved c = λ k h. ⊎_elim {C = AreRising value_cmp (get_or c.args.fronts.now.fronts k [])}
    (c.loop-rank.invariant k)
    (λ e. subst (λ n. AreRising value_cmp (get_or c.args.fronts.now.fronts n [])) e (subst (AreRising value_cmp) (c.deref-in-loop-rank.ensures ∙ c.front.ensures.front) c.as_slice.ensures.rises))
    (next k c.loop-rank.rank h)
