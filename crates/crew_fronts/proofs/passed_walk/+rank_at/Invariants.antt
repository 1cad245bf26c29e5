use Rattle.std.proofs.Common.{length}
use Rattle.crew_label.specs.Walks.{walk_of}
use Rattle.crew_fronts.proofs.passed_walk.+rank_at.Given as goal

abbrev pub decreases-rank_at : goal.decreases-rank_at
decreases-rank_at g l = length (walk_of (g.T.Trails.trail l.trails.now) l.link)
