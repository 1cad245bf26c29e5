use Rattle.crew_session.proofs.BeginFacts.{on-err-weaker}
use Rattle.std.proofs.lemmas.Result.{IfErr-weaker, IfOk-weaker}
use Rattle.crew_session.proofs.OddFacts.{played-of}
use Rattle.crew_session.proofs.RecordFacts.{rows-at-start}
use Rattle.crew_session.proofs.SessionFacts.{at-start, in-step-at-start}
use Rattle.crew_session.proofs.session.read_all.Goals as goal

pub obey_all-requires-clause-in_step : goal.obey_all-requires-clause-in_step
obey_all-requires-clause-in_step g c =
    let j = c.new-journal.ensures in
    λ κs below. in-step-at-start _ c.new-journal.result _ c.args.settings.now _ j.entries j.records c.requires.version c.requires.entries

pub returns-clause-ended : goal.returns-clause-ended
returns-clause-ended g c =
    let fr = c.from_reader-records.ensures in
    let j = c.new-journal.ensures in
    let begin = at-start c.new-journal.result _ c.args.settings.now _ j.zones j.records c.requires.version c.requires.entries in
    IfOk-weaker c.obey_all.result _ _ (λ u h. rows-at-start _ _ _ fr.source (rw (fr.state, begin) at h)) c.obey_all.ensures.ended

pub returns-clause-begun : goal.returns-clause-begun
returns-clause-begun g c =
    let fr = c.from_reader-records.ensures in
    let j = c.new-journal.ensures in
    let begin = at-start c.new-journal.result _ c.args.settings.now _ j.zones j.records c.requires.version c.requires.entries in
    on-err-weaker c.obey_all.result _ _ (λ h. rows-at-start _ _ _ fr.source (rw (fr.state, begin) at h)) c.obey_all.ensures.begun

pub returns-clause-fault : goal.returns-clause-fault
returns-clause-fault g c =
    let fr = c.from_reader-records.ensures in
    let j = c.new-journal.ensures in
    let begin = at-start c.new-journal.result _ c.args.settings.now _ j.zones j.records c.requires.version c.requires.entries in
    IfErr-weaker c.obey_all.result _ _ (λ fault h. played-of _ _ fault (λ number m. (m.0, (m.1.0, rows-at-start _ _ _ fr.source (rw (fr.state, begin) at m.1.1), m.1.2))) h) c.obey_all.ensures.fault
