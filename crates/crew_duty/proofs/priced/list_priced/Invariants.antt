use Rattle.std.proofs.Common.{◌≡◌, ◌≤◌, ◌-◌, length, map, take}
use Rattle.crew_duty.specs.Machinery.Prices.{under_prices}
use Rattle.crew_duty.proofs.priced.list_priced.Given as goal

abbrev pub invariant-loop-from : goal.invariant-loop-from
invariant-loop-from l = record {
  within : l.from ≤ length l.duties;
  list : l.list ≡ map (under_prices l.prices.items) (take l.from l.duties);
}

abbrev pub decreases-loop-from : goal.decreases-loop-from
decreases-loop-from l = length l.duties - l.from
