use Rattle.std.proofs.Common.{arith}
use Rattle.crew_pool.proofs.ColumnLemmas.{long_rows, least_from}
use Rattle.crew_room.proofs.columns.Columns.reserve.Goals as goal

pub returns-clause-ok : goal.returns-clause-ok
returns-clause-ok c = rw (c.in_ok-reserve.ensures.items, c.in_ok-reserve-2.ensures.items, c.in_ok-reserve-3.ensures.items, c.in_ok-reserve-4.ensures.items, long_rows c.self.invariant)
    (least_from _ _ _ _ _ (record {
      first = let held = c.self.inside.first.ok.0 in let same = c.in_ok-reserve.ensures.len in omega (arith, held, same, c.in_ok-reserve.ensures.ok);
      second = let held = c.self.inside.second.ok.0 in let same = c.in_ok-reserve-2.ensures.len in omega (arith, held, same, c.self.invariant.second, c.in_ok-reserve-2.ensures.ok);
      third = let held = c.self.inside.third.ok.0 in let same = c.in_ok-reserve-3.ensures.len in omega (arith, held, same, c.self.invariant.third, c.in_ok-reserve-3.ensures.ok);
      fourth = let held = c.self.inside.fourth.ok.0 in let same = c.in_ok-reserve-4.ensures.len in omega (arith, held, same, c.self.invariant.fourth, c.in_ok-reserve-4.ensures.ok);
    }))
