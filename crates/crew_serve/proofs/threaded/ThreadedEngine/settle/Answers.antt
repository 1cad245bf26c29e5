use Rattle.std.proofs.Common.{Ok, Err, ap}
use Rattle.crew_serve.proofs.Told.{settled-told}
use Rattle.crew_serve.specs.Machinery.Threads.{Threading}
use Rattle.crew_serve.proofs.threaded.ThreadedEngine.settle.Goals as goal

pub returns-in-Ok-clause-told : goal.returns-in-Ok-clause-told
returns-in-Ok-clause-told g c strange =
    let next = c.next_view.ensures in
    let show = c.show.ensures in
    settled-told c.args.self.now c.next_view.new.self c.show.new.self (Ok c.in-Ok.view.version) next.many next.found show.found show.keeps.1 next.reads c.in-Ok.ensures.told

pub returns-in-Err-clause-told : goal.returns-in-Err-clause-told
returns-in-Err-clause-told g c strange =
    let next = c.next_view.ensures in
    let noted = c.refuse.ensures.noted in
    settled-told c.args.self.now c.next_view.new.self c.refuse.new.self (Err c.in-Err.fault) next.many next.found (ap (λ (t : Threading). t.found) noted) (ap (λ (t : Threading). t.made) noted) next.reads c.in-Err.ensures.fault
