use Rattle.crew_session.proofs.SessionFacts.{stops-by}
use Rattle.crew_session.proofs.session.run.Goals as goal

pub returns-in-Err-clause-fault : goal.returns-in-Err-clause-fault
returns-in-Err-clause-fault g c = rw c.cause.ensures (stops-by _ _ _ _ c.in-Err.fault c.in-Err.ensures.fault)
