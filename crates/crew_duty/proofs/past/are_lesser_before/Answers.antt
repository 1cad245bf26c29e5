use Rattle.std.proofs.Common.{◌<◌, ◌-◌, ap, arith, get_or, length}
use Rattle.std.proofs.lemmas.Bool.Decides.{nat_tests}
use Rattle.crew_pairing.specs.declared.duty.Duty.{Duty}
use Rattle.crew_duty.specs.Machinery.Kept.{first_of}
use Rattle.crew_duty.proofs.Blocks.{got, lesser-before}
use Rattle.crew_duty.proofs.past.are_lesser_before.Goals as goal

pub returns-then-place-len : goal.returns-then-place-len
returns-then-place-len c = λ e k d o.
    let duties = c.args.duties.now in
    let place = c.args.place in
    let last = c.at.result.now in
    let within : place - 1 < length duties = omega (arith, c.if-place-eq0.false, c.if-place-len.true, c.len.ensures) in
    let below : c.first_number.result < c.args.number = grind (arith, nat_tests, e) in
    let there = ap (λ (x : Duty). first_of x.key) (got duties (place - 1) last last c.at.ensures) in
    let less : first_of (get_or duties (place - 1) last).key < c.args.number = omega (arith, c.first_number.ensures, below, there) in
    lesser-before duties c.args.number (place - 1) last c.requires within less k d (omega (arith, o, c.if-place-eq0.false))
