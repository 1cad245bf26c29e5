use Rattle.std.proofs.Common.{◌≡◌, ◌<◌, ℤ, drop, false, length, map, take, true}
use Rattle.crew_pool.specs.Counted.{AreCounted}
use Rattle.crew_pool.specs.LabelWalks.{shown}
use Rattle.crew_pool.specs.declared.label_walk.LabelWalk.{LabelWalk}
use Rattle.crew_resource.specs.Members.{Member}
use Rattle.crew_step.specs.Walks.{HasGrown}
use Rattle.crew_step.proofs.waiting.waiting_labels.Given as goal

-- the labels so far are whole, the others as they were
abbrev pub invariant-loop-place : goal.invariant-loop-place
invariant-loop-place g l =
    HasGrown l.fn.walks l.walks
    × (map (shown l.walks) (take l.place l.labels.items) ≡ map (shown l.fn.walks) (take l.place l.fn.pool))
    × (drop l.place l.labels.items ≡ drop l.place l.fn.pool)
    × ((label : g.row.R-Value.Denot × LabelWalk) → Member (take l.place l.labels.items) label → label.1.walk < length l.walks)
    × ((count : g.row.R-Value.Denot → ℤ) → AreCounted count l.fn.walks false l.fn.pool → AreCounted count l.walks true (take l.place l.labels.items))
