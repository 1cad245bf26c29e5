use Rattle.std.proofs.Common.{◌≡◌, Some, take}
use Rattle.std.specs.Prelude.{slice_get}
use Rattle.crew_pool.specs.declared.label_walk.LabelWalk.{LabelWalk}
use Rattle.crew_resource.specs.Members.{Member}
use Rattle.crew_carry.proofs.carrier.are_in_place.Given as goal

-- the labels so far
abbrev pub invariant-loop-label : goal.invariant-loop-label
invariant-loop-label g l = (m : g.row.R-Value.Denot × LabelWalk) → Member (take l.label-index l.labels) m → slice_get l.places m.1.walk ≡ Some (Some m.1.walk)
