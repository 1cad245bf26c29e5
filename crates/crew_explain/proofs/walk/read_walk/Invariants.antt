use Rattle.std.proofs.Common.{◌≡◌, [], drop, length}
use Rattle.crew_resource.specs.Members.{Each}
use Rattle.crew_explain.specs.Machinery.Ranges.{IsInRange}
use Rattle.crew_explain.specs.Rules.{read_after}
use Rattle.crew_explain.proofs.walk.read_walk.Given as goal

abbrev pub invariant-loop-key : goal.invariant-loop-key
invariant-loop-key l = record {
  rest : read_after l.fn.settings l.fn.timetable l.duties.items l.limits.items (drop l.key-index l.walk) ≡ read_after l.fn.settings l.fn.timetable [] [] l.fn.walk;
  ranges : Each IsInRange l.duties.items;
  many : length l.duties.items ≡ l.key-index;
}
