use Rattle.std.proofs.Common.{refl, sym, ◌∙◌}
use Rattle.crew_session.proofs.BeginFacts.{begun-one}
use Rattle.crew_session.proofs.session.refuse.Goals as goal

pub returns-in-Some-clause-begun : goal.returns-in-Some-clause-begun
returns-in-Some-clause-begun g c = begun-one c.write_refused.result _ _ _ _ (c.in-Some.why, sym c.number.ensures ∙ c.in-Some.is, refl) c.write_refused.ensures.begun
