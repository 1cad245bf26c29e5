use Rattle.std.proofs.Common.{refl}
use Rattle.crew_session.proofs.BeginFacts.{begins-longer, begun-then, on-err}
use Rattle.crew_session.proofs.session.publish.Goals as goal

pub returns-in_err-write_refusals-clause-begun : goal.returns-in_err-write_refusals-clause-begun
returns-in_err-write_refusals-clause-begun g c = on-err c.from_residual.result _ (begins-longer _ _ _ _ c.in_err-write_refusals.ensures.begun)

pub returns-clause-begun : goal.returns-clause-begun
returns-clause-begun g c = begun-then c.write_version.result _ _ _ _ _ _ c.in_ok-write_refusals.ensures.written refl c.write_version.ensures.begun
