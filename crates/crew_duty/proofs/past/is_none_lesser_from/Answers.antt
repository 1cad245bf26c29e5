use Rattle.std.proofs.Common.{◌≤◌, ap, arith, get_or}
use Rattle.std.proofs.lemmas.Bool.Decides.{nat_tests}
use Rattle.crew_pairing.specs.declared.duty.Duty.{Duty}
use Rattle.crew_duty.specs.Machinery.Kept.{first_of}
use Rattle.crew_duty.proofs.Blocks.{got, none-lesser}
use Rattle.crew_duty.proofs.past.is_none_lesser_from.Goals as goal

pub returns-else-place-len : goal.returns-else-place-len
returns-else-place-len c = λ e k d o within.
    let duties = c.args.duties.now in
    let first = c.at.result.now in
    let above : c.args.number ≤ c.first_number.result = grind (arith, nat_tests, e) in
    let there = ap (λ (x : Duty). first_of x.key) (got duties c.args.place first first c.at.ensures) in
    let most : c.args.number ≤ first_of (get_or duties c.args.place first).key = omega (arith, c.first_number.ensures, above, there) in
    none-lesser duties c.args.number c.args.place first c.requires most k d o within
