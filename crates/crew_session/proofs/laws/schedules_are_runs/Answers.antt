use Rattle.crew_session.proofs.RunFacts.{runs}
use Rattle.crew_session.specs.Replay.{start}
use Rattle.crew_session.specs.Rows.{records_of}
use Rattle.crew_session.proofs.laws.schedules_are_runs.Goals as goal

pub returns : goal.returns
returns c = λ s bytes text h. runs s 0 (start s) (records_of bytes) text h
