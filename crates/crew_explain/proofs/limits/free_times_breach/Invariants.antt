use Rattle.std.proofs.Common.{◌≡◌, ◌+◌, ◌≤ℤ◌, drop, pos}
use Rattle.crew_explain.specs.Machinery.Ranges.{IsInRange}
use Rattle.crew_explain.specs.Rules.{first_of, free_times}
use Rattle.crew_explain.proofs.limits.free_times_breach.Given as goal

abbrev pub invariant-loop-next : goal.invariant-loop-next
invariant-loop-next l = record {
  rest : first_of (free_times l.place l.rested l.last (drop l.next-index l.others)) ≡ first_of (free_times 2 l.fn.first.report l.fn.first l.fn.others);
  place : l.place ≡ l.next-index + 2;
  range : IsInRange l.last;
  least : pos 15_000_000 ≤ℤ l.rested;
  most : l.rested ≤ℤ pos 70_000_000;
}
