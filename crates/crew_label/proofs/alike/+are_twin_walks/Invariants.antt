use Rattle.std.proofs.Common.{length}
use Rattle.crew_label.specs.Walks.{walk_of}
use Rattle.crew_label.proofs.alike.+are_twin_walks.Given as goal

abbrev pub decreases-are_twin_walks : goal.decreases-are_twin_walks
decreases-are_twin_walks g l = length (walk_of (g.T.Trails.trail l.here.now) l.link)
