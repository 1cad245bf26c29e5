use Rattle.std.proofs.Common.{take}
use Rattle.crew_sweep.proofs.Marks.{AreLess, AreMarked}
use Rattle.crew_sweep.proofs.renewal.mark.Given as goal

-- the places of so many ranks are marked
abbrev pub invariant-loop-rank : goal.invariant-loop-rank
invariant-loop-rank l = AreLess l.changed l.fn.changed × AreMarked l.changed l.places (take l.rank-index l.ranks)
