use Rattle.crew_session.specs.Replay.{Performs, start}
use Rattle.crew_session.proofs.BeginFacts.{on-err}
use Rattle.crew_session.proofs.RecordFacts.{ended-begun}
use Rattle.crew_session.proofs.schedule.perform.Goals as goal

pub returns-in_err-check_all-clause-begun : goal.returns-in_err-check_all-clause-begun
returns-in_err-check_all-clause-begun g c =
    on-err _ _ (ended-begun (Performs c.args.settings.now) (start c.args.settings.now) _ _ _ _ _ c.in_ok-ending.ensures.ended c.in-AtEnd.is c.check_all.ensures.kept)
