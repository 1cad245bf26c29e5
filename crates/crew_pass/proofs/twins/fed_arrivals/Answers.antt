use Rattle.std.proofs.Common.{arith, refl, true}
use Rattle.crew_pass.proofs.Twinned.{IsFedWhere, fed-where, none-so-far, one-so-far}
use Rattle.crew_pass.proofs.twins.fed_arrivals.Goals as goal

pub loop-place-init : goal.loop-place-init
loop-place-init c =
    none-so-far (IsFedWhere c.args.net.now c.args.earlier.now c.args.duties.now c.args.arrivals.now) _ c.in_ok-fed.ensures.items

pub loop-place-preserved : goal.loop-place-preserved
loop-place-preserved c =
    let net = c.args.net.now in
    let earlier = c.args.earlier.now in
    let duties = c.args.duties.now in
    let arrivals = c.args.arrivals.now in
    let place = c.loop-place.place in
    one-so-far (IsFedWhere net earlier duties arrivals) place c.loop-place.fed.items c.push.new.self.items c.is_fed.result c.in_ok-push.ensures.items
    (fed-where net earlier duties arrivals place c.is_fed.result c.loop-place-test.true c.is_fed.ensures)
    c.loop-place.invariant

pub returns-clause-long : goal.returns-clause-long
returns-clause-long c =
    let long = c.loop-place.invariant.long in
    omega (arith, c.loop-place-test.false, long)

pub returns-clause-fed : goal.returns-clause-fed
returns-clause-fed c place other at told = c.loop-place.invariant.each place true told other at refl
