use Rattle.std.proofs.Common.{ap}
use Rattle.crew_session.specs.Lines.{best_line}
use Rattle.crew_session.proofs.BeginFacts.{begun-one}
use Rattle.crew_session.proofs.pairings.answer_best_of.Goals as goal

pub returns-clause-begun : goal.returns-clause-begun
returns-clause-begun g c =
    begun-one c.write_best_line.result _ _ _ _ (record { best = c.in_ok-best.best; exact = c.in_ok-best.ensures; written = ap best_line c.as_ref.ensures.value }) c.write_best_line.ensures.begun
