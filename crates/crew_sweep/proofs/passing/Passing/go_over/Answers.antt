use Rattle.std.proofs.Common.{◌≡◌, ◌∙◌, ◌+◌, ap, arith, length}
use Rattle.crew_net.proofs.Slices.{at-position}
use Rattle.crew_sweep.specs.declared.passed.Passed.{Passed}
use Rattle.crew_sweep.proofs.passing.Passing.go_over.Goals as goal

pub loop-departure-init : goal.loop-departure-init
loop-departure-init c = (c.requires.stands, c.requires.none)

pub begin_batch-requires-clause-stands : goal.begin_batch-requires-clause-stands
begin_batch-requires-clause-stands c = c.loop-departure.invariant.0

pub go_on_alike-requires-clause-place : goal.go_on_alike-requires-clause-place
go_on_alike-requires-clause-place c = at-position c.args.ground.now.net.now.by_report c.by_report-departure-items.result.now c.by_report-departure-items.ensures.places c.loop-departure.departure-index c.loop-departure-test.true _ (ap (λ (p : Passed). length p.pools) c.begin_batch.ensures.passed ∙ c.loop-departure.invariant.1)

pub go_on_alike-requires-clause-stands : goal.go_on_alike-requires-clause-stands
go_on_alike-requires-clause-stands c = c.begin_batch.ensures.stands

pub loop-departure-preserved : goal.loop-departure-preserved
loop-departure-preserved c = (c.in_ok-go_on_alike.ensures.stands, c.in_ok-go_on_alike.ensures.more ∙ ap (λ n. n + 1) (ap (λ (p : Passed). length p.pools) c.begin_batch.ensures.passed ∙ c.loop-departure.invariant.1))

pub returns : goal.returns
returns c =
    let all : c.loop-departure.departure-index ≡ length c.by_report-departure-items.result.now = omega arith in
    record {
      made = c.loop-departure.self.arrivals.made.items;
      held = c.loop-departure.self.arrivals.pools.items;
      all = c.loop-departure.invariant.1 ∙ (all ∙ ap length c.by_report-departure-items.ensures.places);
      passing = c.loop-departure.invariant.0.pools;
    }
