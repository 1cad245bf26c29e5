use Rattle.std.proofs.Common.{refl}
use Rattle.crew_session.proofs.BeginFacts.{begins-longer, begun-then, on-err}
use Rattle.crew_session.proofs.LineFacts.{wrote-both}
use Rattle.crew_session.proofs.pairings.write_pairings.Goals as goal

pub returns-in_err-write_line-clause-begun : goal.returns-in_err-write_line-clause-begun
returns-in_err-write_line-clause-begun g c = on-err c.from_residual-in_err-write_line.result _ (begins-longer _ _ _ _ (rw (c.deref.ensures.value, c.in_ok-count_line.ensures) at c.in_err-write_line.ensures.begun))

pub returns-clause-written : goal.returns-clause-written
returns-clause-written g c = wrote-both c.write_each.result _ _ _ _ _ (rw (c.deref.ensures.value, c.in_ok-count_line.ensures) at c.in_ok-write_line.ensures.written) c.write_each.ensures.written

pub returns-clause-begun : goal.returns-clause-begun
returns-clause-begun g c = begun-then c.write_each.result _ _ _ _ _ _ (rw (c.deref.ensures.value, c.in_ok-count_line.ensures) at c.in_ok-write_line.ensures.written) refl c.write_each.ensures.begun
