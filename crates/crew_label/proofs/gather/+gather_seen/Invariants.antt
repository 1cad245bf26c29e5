use Rattle.std.proofs.Common.{length}
use Rattle.crew_label.proofs.gather.+gather_seen.Given as goal

abbrev pub decreases-gather_seen : goal.decreases-gather_seen
decreases-gather_seen g l = length l.seen.now
