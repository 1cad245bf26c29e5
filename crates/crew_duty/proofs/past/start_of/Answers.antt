use Rattle.std.proofs.Common.{◌≤◌, ◌<◌, ◌+◌, ◌-◌, ◌/◌, ap, arith, get_or, length}
use Rattle.crew_pairing.specs.declared.duty.Duty.{Duty}
use Rattle.crew_duty.specs.Machinery.Kept.{first_of}
use Rattle.crew_duty.proofs.Blocks.{got, lesser-before, none-lesser}
use Rattle.crew_duty.proofs.past.start_of.Goals as goal

pub loop-low-preserved-then-first_number-number : goal.loop-low-preserved-then-first_number-number
loop-low-preserved-then-first_number-number c =
    let duties = c.args.duties.now in
    let n = c.args.number in
    let low = c.loop-low.low in
    let high = c.loop-low.high in
    let middle = low + (high - low) / 2 in
    let here = c.at.result.now in
    let inv = c.loop-low.invariant in
    let before : middle < high = omega (arith, c.loop-low-test.true) in
    let within : middle < length duties = omega (arith, before, inv.within) in
    let there = ap (λ (x : Duty). first_of x.key) (got duties middle here here c.at.ensures) in
    let less : first_of (get_or duties middle here).key < n = omega (arith, c.first_number.ensures, c.if-first_number-number.true, there) in
    record {
      ordered = omega (arith, before);
      within = inv.within;
      before = λ k d o. lesser-before duties n middle here c.requires within less k d (omega (arith, o));
      after = inv.after;
    }

pub loop-low-preserved : goal.loop-low-preserved
loop-low-preserved c =
    let duties = c.args.duties.now in
    let n = c.args.number in
    let low = c.loop-low.low in
    let high = c.loop-low.high in
    let middle = low + (high - low) / 2 in
    let here = c.at.result.now in
    let inv = c.loop-low.invariant in
    let before : middle < high = omega (arith, c.loop-low-test.true) in
    let there = ap (λ (x : Duty). first_of x.key) (got duties middle here here c.at.ensures) in
    let most : n ≤ first_of (get_or duties middle here).key = omega (arith, c.first_number.ensures, c.if-first_number-number.false, there) in
    record {
      ordered = omega arith;
      within = omega (arith, before, inv.within);
      before = inv.before;
      after = λ k d o within. none-lesser duties n middle here c.requires most k d o within;
    }
