use Rattle.std.proofs.Common.{◌≡◌, [], map, take, get_or}
use Rattle.crew_label.specs.Tables.{trail_in}
use Rattle.crew_label.specs.Walks.{shown}
use Rattle.crew_pool.specs.Ranks.{by_key}
use Rattle.crew_pass.proofs.base_fronts.BaseFronts.entries.Given as goal

abbrev pub invariant-loop-label : goal.invariant-loop-label
invariant-loop-label g l = l.entries.items ≡ by_key l.self.net.duties (map (shown (trail_in l.self.leaves l.self.pools)) (take l.label-index (get_or l.self.fronts l.rank [])))
