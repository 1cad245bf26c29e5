use Rattle.std.proofs.Common.{◌≡◌, ◌∙◌, ◌+◌, arith, false, get_or, refl, subst, sym, true, true≢false}
use Rattle.crew_net.proofs.EventOrder.{Member-index}
use Rattle.crew_resource.proofs.Members.{Member-get}
use Rattle.crew_board.proofs.before.are_same.Goals as goal

pub overflow_add-first : goal.overflow_add-first
overflow_add-first c = let h = c.requires (get_or c.args.ranks.now c.loop-rank.rank-index 0) (Member-get c.args.ranks.now c.loop-rank.rank-index 0 c.loop-rank-test.true) in omega (arith, h)

pub returns-then-not-is_same : goal.returns-then-not-is_same
returns-then-not-is_same c = (
  λ t. absurd (true≢false (sym t)),
  λ all. absurd (true≢false (sym (all (get_or c.args.ranks.now c.loop-rank.rank-index 0) (Member-get c.args.ranks.now c.loop-rank.rank-index 0 c.loop-rank-test.true)) ∙ (sym c.is_same.ensures.flag ∙ c.if-not-is_same.true))),
)

pub returns : goal.returns
returns c = (
  λ t rank m. (
      let at = Member-index c.args.ranks.now rank m in
      let low = at.1 in
      let end = c.loop-rank-test.false in
      let here = c.loop-rank.invariant at.0 (omega (arith, low, end)) in
      subst (λ k. get_or c.args.marks.now.same (c.args.first + k) false ≡ true) (at.2 0) here),
  λ all. refl,
)
