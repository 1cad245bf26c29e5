use Rattle.std.proofs.Common.{◌∙◌, ◌++◌, ap, append_assoc, sym}
use Rattle.crew_solve.proofs.Listed.{flat-more}
use Rattle.crew_solve.specs.Apart.{flown_on}
use Rattle.crew_solve.proofs.taken.push_key.Goals as goal

pub loop-leg-preserved : goal.loop-leg-preserved
loop-leg-preserved c =
    let before = c.args.flights.now.items in
    let more = flat-more flown_on c.legs-legs.result.now c.loop-leg.leg-index c.leg-item.result c.loop-leg-test.true in (
      c.in_ok-push_leg.ensures.flown ∙ ((λ k. c.loop-leg.invariant.0 k ++ flown_on (c.leg-item.is k)) ∙ (append_assoc before _ _ ∙ ap (λ l. before ++ l) (sym more))),
      λ each. c.in_ok-push_leg.ensures.numbers (c.loop-leg.invariant.1 each),
    )
