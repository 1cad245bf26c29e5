use Rattle.std.proofs.Common.{OnOk, subst}
use Rattle.crew_sweep.specs.Machinery.Passing.{HaveStayed}
use Rattle.crew_sweep.specs.declared.arrivals.Arrivals.{Arrivals}
use Rattle.crew_sweep.proofs.passing.Passing.go_on_from.Goals as goal

pub returns-in_default-clause-stayed : goal.returns-in_default-clause-stayed
returns-in_default-clause-stayed c =
    let now = c.go_on.new.self.arrivals in
    subst (λ (a : Arrivals). OnOk c.go_on.result (HaveStayed a.made.items a.pools.items now.made.items now.pools.items)) c.share_departure.ensures.arrivals c.go_on.ensures.stayed
