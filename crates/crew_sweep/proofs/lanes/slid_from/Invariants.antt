use Rattle.std.proofs.Common.{◌≡◌, ℕ, Bool, List, length}
use Rattle.crew_net.specs.Nets.{Net}
use Rattle.crew_pairing.specs.declared.vector.PairingVector.{PairingVector}
use Rattle.crew_pool.specs.declared.label_walk.LabelWalk.{LabelWalk}
use Rattle.crew_resource.specs.Members.{Member}
use Rattle.crew_sweep.specs.Machinery.Ahead.{AreAhead}
use Rattle.crew_sweep.specs.Machinery.Lanes.{AreGrouped, AreLanes}
use Rattle.crew_sweep.specs.Machinery.Slides.{IsOver}
use Rattle.crew_sweep.specs.declared.slide.Slide.{Slide}
use Rattle.crew_sweep.proofs.lanes.slid_from.Given as goal

-- so many slides over what is made, and what stands in windows; the lanes that are left are lanes
abbrev pub invariant-loop-lanes : goal.invariant-loop-lanes
invariant-loop-lanes l =
    (length l.slides.items ≡ l.count)
    × ((net : Net) (walks : List (List ℕ)) (made : List Bool) (held : List (List (PairingVector × LabelWalk))) → AreGrouped net walks made held l.fn.groups.items
    → ((slide : Slide) → Member l.slides.items slide → IsOver walks made held slide) × AreAhead net walks made held l.ahead.items × AreGrouped net walks made held l.lanes-iterator.rest.items)

abbrev pub invariant-loop-lane : goal.invariant-loop-lane
invariant-loop-lane l =
    (length l.slides.items ≡ l.count)
    × ((net : Net) (walks : List (List ℕ)) (made : List Bool) (held : List (List (PairingVector × LabelWalk))) → AreGrouped net walks made held l.fn.groups.items
    → ((slide : Slide) → Member l.slides.items slide → IsOver walks made held slide) × AreAhead net walks made held l.ahead.items × AreGrouped net walks made held l.lanes-iterator.rest.items
    × AreLanes net walks made held l.lane-iterator.rest.items)
