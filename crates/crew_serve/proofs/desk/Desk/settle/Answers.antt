use Rattle.std.proofs.Common.{ap}
use Rattle.crew_serve.proofs.DeskFacts.{on-both, unsettled}
use Rattle.crew_serve.specs.Machinery.Clerks.{Clerking}
use Rattle.crew_serve.proofs.desk.Desk.settle.Goals as goal

pub returns-in-Err-clause-ok : goal.returns-in-Err-clause-ok
returns-in-Err-clause-ok g c =
    let seat = ap (λ (k : Clerking). k.seat) c.settle.ensures.seen in
    rw (← c.self.view_is, seat) (on-both c.refuse.result c.refuse.ensures.told c.refuse.ensures.other (λ told other. unsettled _ c.settle.new.self.version c.args.number c.in-Err.fault _ _ c.settle.ensures.sight (rw c.deref.ensures.value at c.in-Err.ensures.fault) other c.requires told))
