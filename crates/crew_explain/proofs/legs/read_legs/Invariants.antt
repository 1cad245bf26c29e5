use Rattle.std.proofs.Common.{◌≡◌, ◌+◌, ◌∷◌, [], drop, length}
use Rattle.crew_explain.specs.Rules.{timed_after}
use Rattle.crew_explain.proofs.legs.read_legs.Given as goal

abbrev pub invariant-loop-leg : goal.invariant-loop-leg
invariant-loop-leg l = record {
  rest : timed_after l.fn.timetable l.fn.duty l.legs (drop l.leg-index l.others) ≡ timed_after l.fn.timetable l.fn.duty [] (l.fn.first ∷ l.fn.others);
  many : length l.legs ≡ l.leg-index + 1;
}
