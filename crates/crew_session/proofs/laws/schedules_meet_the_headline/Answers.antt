use Rattle.std.specs.FinMap as map
use Rattle.crew_core.proofs.Played.{headline}
use Rattle.crew_session.proofs.RunFacts.{runs}
use Rattle.crew_session.specs.Replay.{start}
use Rattle.crew_session.specs.Replies.{acts_in}
use Rattle.crew_session.specs.Rows.{records_of}
use Rattle.crew_session.proofs.laws.schedules_meet_the_headline.Goals as goal

pub returns : goal.returns
returns c = λ s bytes text checked h.
    let run = runs s 0 (start s) (records_of bytes) text h in
    (run.0, run.1, run.2, run.3, headline s checked (acts_in s map.empty (records_of bytes)) run.0 run.1 run.2)
