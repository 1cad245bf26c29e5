use Rattle.std.proofs.Common.{◌≡◌, ◌≤ℤ◌, drop, pos}
use Rattle.crew_pairing.specs.Pairings.{last_duty}
use Rattle.crew_history.specs.Limits.{last_of, last_rest_end, rested_reports}
use Rattle.crew_audit.specs.Machinery.Ranges.{IsInRange}
use Rattle.crew_audit.proofs.limits.since_rest.Given as goal

abbrev pub invariant-loop-next : goal.invariant-loop-next
invariant-loop-next l = record {
  end : last_of l.rested (rested_reports l.last (drop l.next-index l.others)) ≡ last_rest_end l.fn.first l.others;
  last : last_duty l.last (drop l.next-index l.others) ≡ last_duty l.fn.first l.others;
  range : IsInRange l.last;
  least : pos 15_000_000 ≤ℤ l.rested;
  most : l.rested ≤ℤ pos 70_000_000;
}
