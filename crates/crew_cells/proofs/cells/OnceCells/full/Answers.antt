use Rattle.std.proofs.Common.{arith, ◌<◌, length}
use Rattle.crew_cells.proofs.Tokens.{tokens-more}
use Rattle.crew_cells.proofs.cells.OnceCells.full.Goals as goal

pub loop-number-preserved : goal.loop-number-preserved
loop-number-preserved g c =
    let inside : c.loop-number.number < length c.self.inside.slots.items = omega (arith, c.loop-number-test.true, c.len-count.ensures) in
    tokens-more (λ w. w.of) c.loop-number.written.items c.push.new.self.items c.self.inside.slots.items c.in-Some.token c.index.result.now c.loop-number.number
    c.in_ok-push.ensures.items c.index.ensures inside c.in-Some.ensures c.loop-number.invariant
