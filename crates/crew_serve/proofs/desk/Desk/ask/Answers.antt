use Rattle.std.proofs.Common.{inl, inr, refl}
use Rattle.crew_serve.proofs.DeskFacts.{blind, on-both, or-err}
use Rattle.crew_serve.proofs.desk.Desk.ask.Goals as goal

pub returns-in-Err-clause-ok : goal.returns-in-Err-clause-ok
returns-in-Err-clause-ok g c =
    let same = c.in-Err.ensures.err in
    rw (← c.self.view_is, same) (on-both c.refuse.result c.refuse.ensures.told c.refuse.ensures.other (λ told other. inr (blind _ c.args.number c.in-Err.fault _ _ (rw same at c.see.ensures.right) c.in-Err.ensures.fault other c.requires.empty told)))

pub returns-in-Err-clause-err : goal.returns-in-Err-clause-err
returns-in-Err-clause-err g c = rw (← c.self.view_is, c.in-Err.ensures.err) (or-err c.refuse.result (inl refl))
