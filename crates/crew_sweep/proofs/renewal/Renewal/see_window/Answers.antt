use Rattle.std.proofs.Common.{◌∙◌, ◌<◌, ◌+◌, arith, length, subst, sym}
use Rattle.crew_net.proofs.Orders.{place-within}
use Rattle.crew_sweep.specs.Machinery.Passing.{IsSealed}
use Rattle.crew_sweep.specs.declared.passed.Passed.{Passed}
use Rattle.crew_sweep.proofs.Passable as passable-proofs
use Rattle.crew_sweep.proofs.renewal.Renewal.see_window.Goals as goal

pub departure-requires : goal.departure-requires
departure-requires c =
    let p = c.requires.ground.passable in
    let within = place-within c.args.ground.now.net.now p.departs p.ordered _ c.args.place c.requires.place in
    subst (λ n. c.args.place < n) (sym c.requires.beside.earlier.twins.departures_long) within

pub loop-offset-init : goal.loop-offset-init
loop-offset-init c = (c.in_ok-may_show_window.ensures.stands, c.may_show_window.ensures.passed)

pub see-requires-clause-stands : goal.see-requires-clause-stands
see-requires-clause-stands c = c.loop-offset.invariant.0

pub see-requires-clause-sealed : goal.see-requires-clause-sealed
see-requires-clause-sealed c =
    let g = c.args.ground.now in
    let d = passable-proofs.departs-at g.net.now g.positions.now c.requires.ground.passable (length c.args.self.now.passing.passed.pools) c.args.place c.requires.place in
    let here = c.window-now.result.from + c.loop-offset.offset in
    let test = c.loop-offset-test.true in
    subst (λ (p : Passed). IsSealed g.net.now (length p.pools) here) (sym c.loop-offset.invariant.1)
    (passable-proofs.window-sealed g.net.now g.positions.now c.requires.ground.passable (length c.args.self.now.passing.passed.pools) d.0 d.2 c.window-now.result (c.window-now.ensures d.0 d.1) here (omega (arith)) (omega (arith, test)))

pub returns-in_err-same-clause-passed : goal.returns-in_err-same-clause-passed
returns-in_err-same-clause-passed c = c.see.ensures.passed ∙ c.loop-offset.invariant.1

pub loop-offset-preserved : goal.loop-offset-preserved
loop-offset-preserved c = (c.in_ok-same.ensures.stands, c.see.ensures.passed ∙ c.loop-offset.invariant.1)

pub returns-then-not-same-clause-passed : goal.returns-then-not-same-clause-passed
returns-then-not-same-clause-passed c = c.see.ensures.passed ∙ c.loop-offset.invariant.1

pub returns-clause-stands : goal.returns-clause-stands
returns-clause-stands c = c.loop-offset.invariant.0

pub returns-clause-passed : goal.returns-clause-passed
returns-clause-passed c = c.loop-offset.invariant.1

pub may_show_window-requires-clause-sealed : goal.may_show_window-requires-clause-sealed
may_show_window-requires-clause-sealed c place from end =
    let g = c.args.ground.now in
    let d = passable-proofs.departs-at g.net.now g.positions.now c.requires.ground.passable (length c.args.self.now.passing.passed.pools) c.args.place c.requires.place in
    passable-proofs.window-sealed g.net.now g.positions.now c.requires.ground.passable (length c.args.self.now.passing.passed.pools) d.0 d.2 c.window-now.result (c.window-now.ensures d.0 d.1) place from end
