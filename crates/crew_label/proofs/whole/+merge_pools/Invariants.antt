use Rattle.std.proofs.Common.{length}
use Rattle.crew_label.proofs.whole.+merge_pools.Given as goal

abbrev pub decreases-merge_pools : goal.decreases-merge_pools
decreases-merge_pools g l = length l.pools.now
