use Rattle.std.proofs.Common.{◌≡◌, true, false, arith, rules}
use Rattle.std.specs.Ordering.{is_lt}
use Rattle.crew_pairing.specs.Keys.{key_cmp}
use Rattle.crew_net.proofs.Ranking.{lesser-before, none-lesser-from}
use Rattle.crew_net.proofs.ranks.key_start.Goals as goal

pub returns-clause-start : goal.returns-clause-start
returns-clause-start c =
    let i = c.loop-low.invariant in
    (λ k d a b. i.2 k d b, λ k d a b. i.3 k d (omega (arith, c.loop-low-test.false, a)) b)

pub loop-low-preserved-then-is_lt : goal.loop-low-preserved-then-is_lt
loop-low-preserved-then-is_lt c =
    let i = c.loop-low.invariant in
    let low = i.0 in
    let less : is_lt (key_cmp c.at.result.now.key c.args.key.now) ≡ true = search rules in
    (omega (arith, c.loop-low-test.true), i.1, lesser-before c.args.duties.now c.args.key.now c.requires _ c.at.result.now c.at.ensures less, i.3)

pub loop-low-preserved : goal.loop-low-preserved
loop-low-preserved c =
    let i = c.loop-low.invariant in
    let most = i.1 in
    let not : is_lt (key_cmp c.at.result.now.key c.args.key.now) ≡ false = search rules in
    (omega arith, omega (arith, most, c.loop-low-test.true), i.2, none-lesser-from c.args.duties.now c.args.key.now c.requires _ c.at.result.now c.at.ensures not)
