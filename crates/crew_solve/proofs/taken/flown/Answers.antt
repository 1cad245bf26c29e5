use Rattle.std.proofs.Common.{◌∙◌, ◌++◌, sym}
use Rattle.std.specs.List.{flat_map}
use Rattle.crew_solve.proofs.Listed.{flat-more}
use Rattle.crew_solve.specs.Apart.{flown_on}
use Rattle.crew_solve.proofs.taken.flown.Goals as goal

pub loop-key-preserved : goal.loop-key-preserved
loop-key-preserved c =
    let more = flat-more (flat_map flown_on) c.keys-keys.result.now c.loop-key.key-index c.key-item.result c.loop-key-test.true in (
      c.in_ok-push_key.ensures.flown ∙ ((λ k. c.loop-key.invariant.0 k ++ flat_map flown_on (c.key-item.is k)) ∙ sym more),
      c.in_ok-push_key.ensures.numbers c.loop-key.invariant.1,
    )
