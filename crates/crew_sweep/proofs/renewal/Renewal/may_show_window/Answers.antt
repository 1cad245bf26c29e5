use Rattle.std.proofs.Common.{◌∙◌, ◌+◌, arith, length, refl, subst, sym}
use Rattle.crew_sweep.specs.Machinery.Passing.{IsSealed}
use Rattle.crew_sweep.specs.declared.passed.Passed.{Passed}
use Rattle.crew_sweep.proofs.renewal.Renewal.may_show_window.Goals as goal

pub loop-offset-init : goal.loop-offset-init
loop-offset-init c = (c.requires.stands, refl)

pub may_show-requires-clause-stands : goal.may_show-requires-clause-stands
may_show-requires-clause-stands c = c.loop-offset.invariant.0

pub may_show-requires-clause-sealed : goal.may_show-requires-clause-sealed
may_show-requires-clause-sealed c =
    let here = c.args.now.from + c.loop-offset.offset in
    let test = c.loop-offset-test.true in
    subst (λ (p : Passed). IsSealed c.args.ground.now.net.now (length p.pools) here) (sym c.loop-offset.invariant.1)
    (c.requires.sealed here (omega (arith)) (omega (arith, test)))

pub loop-offset-preserved : goal.loop-offset-preserved
loop-offset-preserved c = (c.in_ok-may_show.ensures.stands, c.may_show.ensures.passed ∙ c.loop-offset.invariant.1)
