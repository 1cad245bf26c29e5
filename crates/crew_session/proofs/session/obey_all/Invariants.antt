use Rattle.std.proofs.Common.{◌≤◌}
use Rattle.crew_session.specs.Machinery.Journals.{IsInStep, state_of}
use Rattle.crew_session.specs.Rows.{IsOpen, rows_left}
use Rattle.crew_session.specs.Session.{ObeysRow}
use Rattle.crew_session.proofs.LeadFacts.{HasLed}
use Rattle.crew_session.proofs.RecordFacts.{HasWritten}
use Rattle.crew_session.proofs.session.obey_all.Given as goal

abbrev pub invariant-records : goal.invariant-records
invariant-records g l = record {
  open_still : IsOpen l.records;
  in_step : IsInStep g.E.Engine.MAY_BE_STRANGE l.journal (g.E.Engine.shown l.engine) (g.E.Engine.entries l.engine);
  late : (g.E.Engine.shown l.engine).number ≤ l.number;
  led : HasLed (ObeysRow l.settings) (rows_left g.R.Read.remaining l.fn.records) (rows_left g.R.Read.remaining l.records) l.number (state_of l.fn.journal (g.E.Engine.shown l.fn.engine) (g.E.Engine.entries l.fn.engine))
      (state_of l.journal (g.E.Engine.shown l.engine) (g.E.Engine.entries l.engine));
  so_far : HasWritten (ObeysRow l.settings) (rows_left g.R.Read.remaining l.fn.records) (rows_left g.R.Read.remaining l.records) (g.W.Write.contents l.fn.writer) (g.W.Write.contents l.writer) l.number
      (state_of l.fn.journal (g.E.Engine.shown l.fn.engine) (g.E.Engine.entries l.fn.engine)) (state_of l.journal (g.E.Engine.shown l.engine) (g.E.Engine.entries l.engine));
}
