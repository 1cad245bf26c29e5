use Rattle.std.proofs.Common.{Bool, length, ℕ}
use Rattle.crew_round.specs.Machinery.Lines.{AreCounted, Grows, IsDueOf, Stays}
use Rattle.crew_round.proofs.line.Line.fill.Given as goal

-- the bases so far have brought in what is due there
abbrev pub invariant-loop-base : goal.invariant-loop-base
invariant-loop-base l = record {
  stays : Stays l.fn.self l.self;
  grows : (flag : ℕ → Bool) → AreCounted l.net flag l.fn.self
      → Grows (IsDueOf l.net l.cells l.carried l.fn.self.any flag l.base) (IsDueOf l.net l.cells l.carried l.fn.self.any flag (length l.net.bases)) l.fn.self.set l.self.set;
}
