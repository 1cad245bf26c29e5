use Rattle.std.proofs.Common.{◌≡◌, ◌+◌, drop}
use Rattle.crew_explain.specs.Rules.{connections, first_of}
use Rattle.crew_explain.proofs.connections.connections_breach.Given as goal

abbrev pub invariant-loop-next : goal.invariant-loop-next
invariant-loop-next l = record {
  rest : first_of (connections l.fn.settings l.fn.timetable.turns l.fn.duty l.leg l.last (drop l.next-index l.others)) ≡ first_of (connections l.fn.settings l.fn.timetable.turns l.fn.duty 2 l.fn.first l.fn.others);
  place : l.leg ≡ l.next-index + 2;
}
