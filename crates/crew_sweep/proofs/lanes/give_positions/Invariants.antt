use Rattle.std.proofs.Common.{◌≡◌, ℕ, Bool, List, length}
use Rattle.crew_pairing.specs.declared.vector.PairingVector.{PairingVector}
use Rattle.crew_pool.specs.declared.label_walk.LabelWalk.{LabelWalk}
use Rattle.crew_sweep.specs.Machinery.Lanes.{AreLanes}
use Rattle.crew_sweep.proofs.lanes.give_positions.Given as goal

-- so far
abbrev pub invariant-loop-position : goal.invariant-loop-position
invariant-loop-position l =
    (length l.lanes.items ≡ length l.fn.lanes.items)
    × ((walks : List (List ℕ)) (made : List Bool) (held : List (List (PairingVector × LabelWalk))) → AreLanes l.ground.net.now walks made held l.fn.lanes.items → AreLanes l.ground.net.now walks made held l.lanes.items)
