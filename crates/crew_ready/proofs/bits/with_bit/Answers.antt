use Rattle.std.proofs.Common.{nat_eq, ap, w64}
use Rattle.std.proofs.lemmas.Nat.Bits.{bit_at_clear_other, bit_at_clear_same, bit_at_set_other, bit_at_set_same}
use Rattle.crew_ready.proofs.bits.with_bit.Goals as goal

pub returns-then-set-clause-here : goal.returns-then-set-clause-here
returns-then-set-clause-here c = rw c.if-set.true (ap (λ z. nat_eq z 1) (bit_at_set_same w64 c.args.word c.args.bit c.requires))

pub returns-then-set-clause-elsewhere : goal.returns-then-set-clause-elsewhere
returns-then-set-clause-elsewhere c = λ k low other. bit_at_set_other w64 c.args.word c.args.bit c.requires k other

pub returns-else-set-clause-here : goal.returns-else-set-clause-here
returns-else-set-clause-here c = rw c.if-set.false (ap (λ z. nat_eq z 1) (bit_at_clear_same w64 c.args.word c.args.bit c.requires))

pub returns-else-set-clause-elsewhere : goal.returns-else-set-clause-elsewhere
returns-else-set-clause-elsewhere c = λ k low other. bit_at_clear_other w64 c.args.word c.args.bit c.requires k low other
