use Rattle.std.proofs.lemmas.Result.{IfOk-weaker}
use Rattle.crew_session.proofs.BeginFacts.{on-err-weaker}
use Rattle.crew_session.proofs.RecordFacts.{rows-at-start}
use Rattle.crew_session.proofs.schedule.perform_bytes.Goals as goal

pub returns-clause-ended : goal.returns-clause-ended
returns-clause-ended g c =
    let fr = c.from_reader-records.ensures in
    IfOk-weaker c.perform_all.result _ _ (λ u h. rows-at-start _ _ _ fr.source (rw fr.state at h)) c.perform_all.ensures.ended

pub returns-clause-begun : goal.returns-clause-begun
returns-clause-begun g c =
    let fr = c.from_reader-records.ensures in
    on-err-weaker c.perform_all.result _ _ (λ h. rows-at-start _ _ _ fr.source (rw fr.state at h)) c.perform_all.ensures.begun
