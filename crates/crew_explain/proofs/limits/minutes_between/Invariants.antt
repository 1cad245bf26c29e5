use Rattle.std.proofs.Common.{◌≡◌, ◌*◌, ◌-ℤ◌, ◌≤ℤ◌, pos, take}
use Rattle.crew_pairing.specs.Legality.{total}
use Rattle.crew_history.specs.Limits.{fdp_between}
use Rattle.crew_explain.proofs.limits.minutes_between.Given as goal

abbrev pub invariant-loop-duty : goal.invariant-loop-duty
invariant-loop-duty l = record {
  so_far : l.minutes ≡ total (fdp_between l.from l.to) (take l.duty-index l.duties);
  least : (pos 0 -ℤ pos (1_000_000_000 * l.duty-index)) ≤ℤ l.minutes;
  most : l.minutes ≤ℤ pos (1_000_000_000 * l.duty-index);
}
