use Rattle.crew_session.proofs.RowFacts.{row-ended, row-taken}
use Rattle.crew_session.proofs.rows.next_row.Goals as goal

pub returns-in-Ok-clause-row : goal.returns-in-Ok-clause-row
returns-in-Ok-clause-row g c e =
    row-taken g.R.Read.remaining c.args.reader.now c.read_byte_record.new.self _ c.requires.1 (rw e at (c.in-Ok.ensures.reads c.requires.0 c.requires.2))

pub returns-in-Ok-clause-end : goal.returns-in-Ok-clause-end
returns-in-Ok-clause-end g c e =
    row-ended g.R.Read.remaining c.args.reader.now c.read_byte_record.new.self _ c.requires.1 (rw e at (c.in-Ok.ensures.reads c.requires.0 c.requires.2))
