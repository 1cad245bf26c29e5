use Rattle.std.proofs.Common.{length}
use Rattle.crew_label.specs.Walks.{walk_of}
use Rattle.crew_label.proofs.trails.+compare_walks.Given as goal

abbrev pub decreases-compare_walks : goal.decreases-compare_walks
decreases-compare_walks g l = length (walk_of (g.T.Trails.trail l.trails.now) l.a)
