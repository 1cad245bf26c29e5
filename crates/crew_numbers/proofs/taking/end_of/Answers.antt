use Rattle.std.proofs.Common.{arith}
use Rattle.crew_numbers.proofs.Gets.{within}
use Rattle.crew_numbers.proofs.taking.end_of.Goals as goal

pub loop-number-init : goal.loop-number-init
loop-number-init c = (omega arith, c.requires.least, λ j k h. absurd (omega (arith, h)))

pub returns-clause-above : goal.returns-clause-above
returns-clause-above c = λ i n e. c.loop-number.invariant.2 i n (let w = within c.args.numbers.now i n e in omega (arith, w, c.loop-number-test.false)) e
