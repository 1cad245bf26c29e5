use Rattle.std.proofs.Common.{length}
use Rattle.crew_solve.proofs.walk_view.WalkView.+is_same.Given as goal

abbrev pub decreases-is_same : goal.decreases-is_same
decreases-is_same l = length l.self.now
