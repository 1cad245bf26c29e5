use Rattle.crew_session.specs.Machinery.Players.{StandsFor}
use Rattle.crew_session.specs.Replay.{Performs, Stage, start}
use Rattle.crew_session.specs.Rows.{IsOpen, rows_left}
use Rattle.crew_session.proofs.RecordFacts.{HasWritten}
use Rattle.crew_session.proofs.schedule.perform_all.Given as goal

abbrev pub invariant-records : goal.invariant-records
invariant-records g l = record {
  open_still : IsOpen l.records;
  stage : Stage;
  stands : StandsFor l.settings l.player stage;
  so_far : HasWritten (Performs l.settings) (rows_left g.R.Read.remaining l.fn.records) (rows_left g.R.Read.remaining l.records) (g.W.Write.contents l.fn.writer) (g.W.Write.contents l.writer) l.number
      (start l.settings) stage;
}
