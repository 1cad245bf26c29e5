use Rattle.std.proofs.Common.{arith, tests}
use Rattle.std.proofs.lemmas.Nat.{one_shl, pow_pos}
use Rattle.std.proofs.lemmas.Nat.Bits.{and_pow, bit_at-lt}
use Rattle.crew_ready.proofs.bits.has_bit.Goals as goal

pub returns : goal.returns
returns c = grind (arith, tests, one_shl c.args.bit 64 c.requires, and_pow c.args.word c.args.bit, pow_pos c.args.bit, bit_at-lt c.args.word c.args.bit)
