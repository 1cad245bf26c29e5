use Rattle.std.proofs.Common.{arith, rules}
use Rattle.std.proofs.lemmas.Int.{ints}
use Rattle.crew_duty.proofs.priced.leg_price.Goals as goal

pub returns-then-is_deadhead-clause-bound : goal.returns-then-is_deadhead-clause-bound
returns-then-is_deadhead-clause-bound c = (omega (arith, ints), omega (arith, ints))

pub returns-in-Some-clause-bound : goal.returns-in-Some-clause-bound
returns-in-Some-clause-bound c = let limits = c.requires c.get.result in search rules

pub returns-in-None-clause-bound : goal.returns-in-None-clause-bound
returns-in-None-clause-bound c = (omega (arith, ints), omega (arith, ints))
