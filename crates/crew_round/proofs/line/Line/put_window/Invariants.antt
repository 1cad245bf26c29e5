use Rattle.std.proofs.Common.{ℕ, Bool}
use Rattle.crew_round.specs.Machinery.Lines.{AreCounted, Grows, IsDue, IsDueIn, Stays}
use Rattle.crew_round.proofs.line.Line.put_window.Given as goal

-- the departures so far have brought in what is due there
abbrev pub invariant-loop-departure : goal.invariant-loop-departure
invariant-loop-departure l = record {
  stays : Stays l.fn.self l.self;
  grows : (flag : ℕ → Bool) → AreCounted l.net flag l.fn.self
      → Grows (IsDueIn l.net l.cells l.carried l.fn.self.any flag l.base l.fn.window.from l.departure) (IsDue l.net l.cells l.carried l.fn.self.any flag l.base) l.fn.self.set l.self.set;
}
