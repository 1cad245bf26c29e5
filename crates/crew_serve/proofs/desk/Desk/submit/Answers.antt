use Rattle.std.proofs.Common.{inr, refl}
use Rattle.crew_serve.proofs.DeskFacts.{on-both, or-err, refused-kept, unentered}
use Rattle.crew_serve.proofs.desk.Desk.submit.Goals as goal

pub returns-in-Err-clause-ok : goal.returns-in-Err-clause-ok
returns-in-Err-clause-ok g c =
    rw (← c.self.view_is, c.submit.ensures.version.0, c.in_ok-reserve.ensures.items) (on-both c.refuse.result c.refuse.ensures.told c.refuse.ensures.other (λ told other. unentered _ c.submit.new.self.seat c.args.edit c.args.number c.in-Err.fault _ _ c.in-Err.ensures.fault other c.requires told))

pub returns-in-Err-clause-err : goal.returns-in-Err-clause-err
returns-in-Err-clause-err g c = rw (← c.self.view_is) (or-err c.refuse.result (inr (refused-kept _ _ c.in-Err.fault c.submit.ensures.right c.submit.ensures.version.0 refl c.in_ok-reserve.ensures.items c.in-Err.ensures.fault)))
