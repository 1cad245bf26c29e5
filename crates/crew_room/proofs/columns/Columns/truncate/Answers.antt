use Rattle.crew_pool.proofs.ColumnLemmas.{rows_taken}
use Rattle.crew_room.proofs.columns.Columns.truncate.Goals as goal

pub returns-clause-rows : goal.returns-clause-rows
returns-clause-rows c =
    rw (c.truncate.ensures.items, c.truncate-2.ensures.items, c.truncate-3.ensures.items, c.truncate-4.ensures.items, ← c.self.view_is) (rows_taken c.self.invariant c.args.count)
