use Rattle.std.proofs.Common.{rules, pos, get_or, ◌+◌}
use Rattle.crew_pool.proofs.ColumnLemmas.{four_from, same_four}
use Rattle.crew_pool.proofs.LaneLemmas.{lane}
use Rattle.crew_room.proofs.columns.above.Goals as goal

pub returns : goal.returns
returns c =
    let xs = c.args.column.now in
    let at = c.args.at in
    let m = c.args.mark in
    rw (four_from xs at (pos 0) c.requires)
    (same_four (lane (get_or xs at (pos 0)) m (search rules) (search rules))
    (lane (get_or xs (at + 1) (pos 0)) m (search rules) (search rules))
    (lane (get_or xs (at + 2) (pos 0)) m (search rules) (search rules))
    (lane (get_or xs (at + 3) (pos 0)) m (search rules) (search rules)))
