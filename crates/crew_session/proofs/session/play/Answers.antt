use Rattle.crew_session.proofs.BeginFacts.{on-err}
use Rattle.crew_session.proofs.RecordFacts.{ended-begun}
use Rattle.crew_session.specs.Session.{ObeysRow, start}
use Rattle.crew_session.proofs.session.play.Goals as goal

pub returns-in_err-check_all-clause-begun : goal.returns-in_err-check_all-clause-begun
returns-in_err-check_all-clause-begun g c =
    on-err _ _ (ended-begun (ObeysRow c.args.settings.now) (start c.args.settings.now) _ _ _ _ _ c.in_ok-ending.ensures.ended c.in-AtEnd.is c.check_all.ensures.kept)
