use Rattle.std.proofs.Common.{take}
use Rattle.crew_round.specs.Machinery.Lines.{Grows, IsOpenAmong, Stays}
use Rattle.crew_round.proofs.line.Line.put_ranks.Given as goal

-- the ranks so far are put in
abbrev pub invariant-loop-rank : goal.invariant-loop-rank
invariant-loop-rank l = record {
  stays : Stays l.fn.self l.self;
  grows : Grows (IsOpenAmong (take l.rank-index l.ranks) l.cells l.carried l.fn.self.any l.base l.offset) (IsOpenAmong (take l.rank-index l.ranks) l.cells l.carried l.fn.self.any l.base l.offset) l.fn.self.set l.self.set;
}
