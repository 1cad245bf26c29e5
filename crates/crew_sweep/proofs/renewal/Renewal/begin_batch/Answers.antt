use Rattle.std.proofs.Common.{subst, sym}
use Rattle.crew_carry.specs.Carried.{IsCarried}
use Rattle.crew_sweep.specs.Machinery.Renewing.{IsRenewing}
use Rattle.crew_sweep.specs.declared.passed.Passed.{Passed}
use Rattle.crew_sweep.proofs.Besides.{stands-beside}
use Rattle.crew_sweep.proofs.renewal.Renewal.begin_batch.Goals as goal

pub returns-clause-stands : goal.returns-clause-stands
returns-clause-stands c =
    let e = c.args.earlier.now in
    let old = e.sweep.now in
    let was = c.requires.stands in
    let same = sym c.begin_batch.ensures.passed in
    let marks = subst (λ (p : Passed). IsRenewing old c.args.ground.now.net.now p.walks p.pools c.args.self.now.changed.items c.args.self.now.alike.items) same was.marks in
    let carried = subst (λ (p : Passed). IsCarried e.twins.now.ranks old.walks p.walks c.args.self.now.carrier) same was.carried in
    stands-beside e c.args.ground.now c.begin_batch.ensures.stands marks carried
