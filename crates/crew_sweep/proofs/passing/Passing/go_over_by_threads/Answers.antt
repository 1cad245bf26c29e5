use Rattle.std.proofs.Common.{◌∙◌, ◌+◌, ap, length, subst, sym, IfSome}
use Rattle.crew_sweep.specs.Machinery.Ahead.{IsAhead}
use Rattle.crew_sweep.specs.declared.passed.Passed.{Passed}
use Rattle.crew_sweep.proofs.Aheads.{ahead-after, ahead-next}
use Rattle.crew_sweep.proofs.passing.Passing.go_over_by_threads.Goals as goal

pub go_on_from-requires-clause-ahead : goal.go_on_from-requires-clause-ahead
go_on_from-requires-clause-ahead g c =
    let net = c.args.ground.now.net.now in
    let was = c.or_look_ahead.new.self in
    let rest = c.next.new.self.rest in
    subst (λ o. IfSome o (IsAhead net was.passed.walks was.arrivals.made.items was.arrivals.pools.items)) (sym c.flatten-waiting.ensures)
    (ahead-next net was.passed.walks was.arrivals.made.items was.arrivals.pools.items c.next.result c.in_ok-ahead.ahead.rest.items rest.items c.in_ok-ahead.ahead.rest.len rest.len c.next.ensures.cases c.in_ok-ahead.ensures.ahead)

pub loop-departure-preserved : goal.loop-departure-preserved
loop-departure-preserved g c =
    let net = c.args.ground.now.net.now in
    let was = c.or_look_ahead.new.self in
    let now = c.go_on_from.new.self in
    let rest = c.next.new.self.rest in
    let counted = ap (λ (p : Passed). length p.pools) c.in_ok-ahead.ensures.passed ∙ c.loop-departure.invariant.1 in (
      c.in_ok-go_on_from.ensures.stands,
      c.in_ok-go_on_from.ensures.more ∙ ap (λ n. n + 1) counted,
      ahead-after net was.passed.walks now.passed.walks c.go_on_from.ensures.grown was.arrivals now.arrivals c.in_ok-ahead.ensures.stands.pools.pending c.in_ok-go_on_from.ensures.stayed c.next.result c.in_ok-ahead.ahead.rest.items rest.items
          c.in_ok-ahead.ahead.rest.len rest.len (sym rest.ok.0) c.next.ensures.cases c.in_ok-ahead.ensures.ahead,
    )
