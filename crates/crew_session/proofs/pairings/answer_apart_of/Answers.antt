use Rattle.std.proofs.Common.{ap}
use Rattle.crew_session.specs.Lines.{pairings_lines}
use Rattle.crew_session.proofs.BeginFacts.{begun-one}
use Rattle.crew_session.proofs.pairings.answer_apart_of.Goals as goal

pub returns-clause-begun : goal.returns-clause-begun
returns-clause-begun g c =
    begun-one c.write_pairings.result _ _ _ _ (record { pairings = c.in_ok-pairings.pairings.items; exact = c.in_ok-pairings.ensures; written = ap pairings_lines c.deref.ensures.value }) c.write_pairings.ensures.begun
