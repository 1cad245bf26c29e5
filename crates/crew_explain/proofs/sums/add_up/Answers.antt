use Rattle.std.proofs.Common.{◌≡◌, ◌∙◌, arith, refl}
use Rattle.std.proofs.lemmas.Int.{ints, to_z-of_z}
use Rattle.crew_pairing.specs.declared.duty.Duty.{Duty}
use Rattle.crew_explain.proofs.Added.{item-in-range, read-32, shares-of, sum-fits, sum-on}
use Rattle.crew_explain.proofs.sums.add_up.Goals as goal

pub overflow_add-sums : goal.overflow_add-sums
overflow_add-sums c =
    let x = c.duty-item.result in
    let v = c.loop-duty.invariant in
    let r = item-in-range c.args.duties.now c.loop-duty.duty-index x c.requires.ranges c.loop-duty-test.true c.duty-item.is in
    let share = shares-of x r in
    let fdp-is = c.from.ensures ∙ read-32 x.fdp share.fdp_wide share.fdp_most in
    sum-fits 100_000_000 c.loop-duty.duty-index c.loop-duty.sums.fdp x.fdp c.from.result fdp-is v.fdp_least v.fdp_most share.fdp r.fdp_most (omega arith) (omega arith)

pub overflow_add-sums-in-loop-duty : goal.overflow_add-sums-in-loop-duty
overflow_add-sums-in-loop-duty c =
    let x = c.duty-item.result in
    let v = c.loop-duty.invariant in
    let r = item-in-range c.args.duties.now c.loop-duty.duty-index x c.requires.ranges c.loop-duty-test.true c.duty-item.is in
    let share = shares-of x r in
    let fly-is = c.from-in-loop-duty.ensures ∙ read-32 x.fly share.fly r.fly_most in
    sum-fits 1_000_000_000 c.loop-duty.duty-index c.loop-duty.sums.fly x.fly c.from-in-loop-duty.result fly-is v.fly_least v.fly_most share.fly r.fly_most (omega arith) (omega arith)

pub overflow_add-sums-in-loop-duty-2 : goal.overflow_add-sums-in-loop-duty-2
overflow_add-sums-in-loop-duty-2 c =
    let r = item-in-range c.args.duties.now c.loop-duty.duty-index c.duty-item.result c.requires.ranges c.loop-duty-test.true c.duty-item.is in
    omega (arith, ints, r.pay, r.pay_most, c.loop-duty.invariant.pay_least, c.loop-duty.invariant.pay_most)

pub overflow_add-sums-in-loop-duty-3 : goal.overflow_add-sums-in-loop-duty-3
overflow_add-sums-in-loop-duty-3 c =
    let x = c.duty-item.result in
    let v = c.loop-duty.invariant in
    let r = item-in-range c.args.duties.now c.loop-duty.duty-index x c.requires.ranges c.loop-duty-test.true c.duty-item.is in
    let share = shares-of x r in
    sum-fits 10_000_000_000 c.loop-duty.duty-index c.loop-duty.sums.price x.price x.price refl v.price_least v.price_most share.price r.price_most (omega arith) (omega arith)

pub loop-duty-preserved : goal.loop-duty-preserved
loop-duty-preserved c =
    let ds = c.args.duties.now in
    let i = c.loop-duty.duty-index in
    let x = c.duty-item.result in
    let v = c.loop-duty.invariant in
    let here = c.loop-duty-test.true in
    let r = item-in-range ds i x c.requires.ranges here c.duty-item.is in
    let share = shares-of x r in
    let few = c.requires.few in
    let fdp-is = c.from.ensures ∙ read-32 x.fdp share.fdp_wide share.fdp_most in
    let fly-is = c.from-in-loop-duty.ensures ∙ read-32 x.fly share.fly r.fly_most in
    let pay-is : c.from-in-loop-duty-2.result ≡ x.pay = grind (arith, ints, to_z-of_z, c.from-in-loop-duty-2.ensures) in
    let fdp = sum-on 100_000_000 (λ (d : Duty). d.fdp) ds i x c.loop-duty.sums.fdp c.from.result fdp-is v.fdp v.fdp_least v.fdp_most share.fdp r.fdp_most here c.duty-item.is few (omega arith) in
    let fly = sum-on 1_000_000_000 (λ (d : Duty). d.fly) ds i x c.loop-duty.sums.fly c.from-in-loop-duty.result fly-is v.fly v.fly_least v.fly_most share.fly r.fly_most here c.duty-item.is few (omega arith) in
    let pay = sum-on 10_000_000_000 (λ (d : Duty). d.pay) ds i x c.loop-duty.sums.pay c.from-in-loop-duty-2.result pay-is v.pay v.pay_least v.pay_most share.pay r.pay_most here c.duty-item.is few (omega arith) in
    let price = sum-on 10_000_000_000 (λ (d : Duty). d.price) ds i x c.loop-duty.sums.price x.price refl v.price v.price_least v.price_most share.price r.price_most here c.duty-item.is few (omega arith) in
    record {
      fdp = fdp.all;
      fly = fly.all;
      pay = pay.all;
      price = price.all;
      fdp_least = fdp.least;
      fdp_most = fdp.most;
      fly_least = fly.least;
      fly_most = fly.most;
      pay_least = pay.least;
      pay_most = pay.most;
      price_least = price.least;
      price_most = price.most;
    }
