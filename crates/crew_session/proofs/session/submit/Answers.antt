use Rattle.crew_session.proofs.SessionFacts.{refused-begin}
use Rattle.crew_session.proofs.BeginFacts.{begins-nothing, on-err}
use Rattle.crew_session.proofs.SessionFacts.{refused-edit}
use Rattle.crew_session.proofs.session.submit.Goals as goal

pub returns-in-Err-clause-came : goal.returns-in-Err-clause-came
returns-in-Err-clause-came g c =
    let told = c.in-Err.ensures in
    refused-edit c.refuse.result g.E.Engine.MAY_BE_STRANGE c.args.journal.now _ _ _ _ c.args.number c.args.edit _ _ c.in-Err.fault c.requires told.fault.1 told.version told.err c.refuse.ensures.written

pub returns-in-Err-clause-begun : goal.returns-in-Err-clause-begun
returns-in-Err-clause-begun g c =
    let told = c.in-Err.ensures in
    refused-begin c.refuse.result g.E.Engine.MAY_BE_STRANGE c.args.journal.now _ _ c.args.number c.args.edit _ _ c.in-Err.fault c.requires told.fault.1 c.refuse.ensures.begun

pub returns-in_err-add-in-Ok-clause-begun : goal.returns-in_err-add-in-Ok-clause-begun
returns-in_err-add-in-Ok-clause-begun g c = on-err c.from_residual.result _ (begins-nothing _ _)
