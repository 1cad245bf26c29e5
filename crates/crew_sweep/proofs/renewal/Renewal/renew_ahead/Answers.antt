use Rattle.std.proofs.Common.{subst, sym}
use Rattle.crew_carry.specs.Carried.{IsCarried}
use Rattle.crew_sweep.specs.Machinery.Renewing.{IsRenewing}
use Rattle.crew_sweep.specs.declared.passed.Passed.{Passed}
use Rattle.crew_sweep.proofs.Besides.{stands-beside}
use Rattle.crew_sweep.proofs.Redone.{on-ok-by}
use Rattle.crew_sweep.proofs.renewal.Renewal.renew_ahead.Goals as goal

pub returns-clause-stands : goal.returns-clause-stands
returns-clause-stands g c =
    let e = c.args.earlier.now in
    let old = e.sweep.now in
    let was = c.requires.stands in
    let same = sym c.make_ahead.ensures.passed in
    let marks = subst (λ (p : Passed). IsRenewing old c.args.ground.now.net.now p.walks p.pools c.args.self.now.changed.items c.args.self.now.alike.items) same was.marks in
    let carried = subst (λ (p : Passed). IsCarried e.twins.now.ranks old.walks p.walks c.args.self.now.carrier) same was.carried in
    on-ok-by c.make_ahead.result (λ stands. stands-beside e c.args.ground.now stands marks carried) c.make_ahead.ensures.stands
