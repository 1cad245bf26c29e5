use Rattle.std.proofs.Common.{◌≡◌, ◌*◌, pos, ◌≤ℤ◌, take}
use Rattle.crew_history.specs.Histories.{minutes_after}
use Rattle.crew_history.proofs.history.History.minutes_after.Given as goal

abbrev pub invariant-loop-i : goal.invariant-loop-i
invariant-loop-i l = record {
  so_far : l.total ≡ minutes_after (take l.i l.self.periods) l.t;
  least : pos 0 ≤ℤ l.total;
  most : l.total ≤ℤ pos (l.i * 4_294_967_296);
}
