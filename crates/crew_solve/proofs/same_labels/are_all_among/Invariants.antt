use Rattle.std.proofs.Common.{take}
use Rattle.crew_pool.specs.declared.label_walk.LabelWalk.{LabelWalk}
use Rattle.crew_pairing.specs.declared.vector.PairingVector.{PairingVector}
use Rattle.crew_resource.specs.Members.{Member}
use Rattle.std.specs.Prelude.{map}
use Rattle.crew_solve.specs.Machinery.Keyed.{keyed_label}
use Rattle.crew_solve.proofs.same_labels.are_all_among.Given as goal

-- those gone over are among the other's
abbrev pub invariant-loop-place : goal.invariant-loop-place
invariant-loop-place l = (x : PairingVector × LabelWalk) → Member (take l.place l.labels) x → Member (map (keyed_label l.other) l.others) (keyed_label l.one x)
