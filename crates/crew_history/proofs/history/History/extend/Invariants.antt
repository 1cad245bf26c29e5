use Rattle.std.proofs.Common.{◌≡◌, ◌≤◌, ◌-◌, pos, length, take, drop, replicate}
use Rattle.crew_history.specs.Histories.{cut}
use Rattle.crew_history.proofs.history.History.extend.Given as goal

abbrev pub invariant-loop-i : goal.invariant-loop-i
invariant-loop-i l = record {
  long : length l.periods ≡ 12;
  within : l.len ≤ l.i;
  so_far : take l.len l.periods ≡ cut l.begin (take l.i l.self.periods);
  zero : drop l.len l.periods ≡ replicate (12 - l.len) (pos 0, pos 0);
}
