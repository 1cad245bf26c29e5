use Rattle.std.proofs.Common.{◌≡◌, ◌+◌, drop}
use Rattle.crew_explain.specs.Machinery.Ranges.{IsInRange}
use Rattle.crew_explain.specs.Rules.{first_of, rests}
use Rattle.crew_explain.proofs.walk.rests_breach.Given as goal

abbrev pub invariant-loop-next : goal.invariant-loop-next
invariant-loop-next l = record {
  rest : first_of (rests l.fn.settings l.place l.last (drop l.next-index l.others)) ≡ first_of (rests l.fn.settings 2 l.fn.first l.fn.others);
  place : l.place ≡ l.next-index + 2;
  range : IsInRange l.last;
}
