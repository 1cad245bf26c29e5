use Rattle.crew_session.proofs.BeginFacts.{begins-nothing, on-err}
use Rattle.crew_session.proofs.lines.write_refused.Goals as goal

pub returns-in_err-line-clause-begun : goal.returns-in_err-line-clause-begun
returns-in_err-line-clause-begun g c = on-err c.from_residual.result _ (begins-nothing _ _)

pub returns-clause-begun : goal.returns-clause-begun
returns-clause-begun g c = rw (c.as_bytes.ensures.value, c.in_ok-line.ensures) at c.write_line.ensures.begun
