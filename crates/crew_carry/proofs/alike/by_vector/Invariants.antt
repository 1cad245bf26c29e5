use Rattle.std.proofs.Common.{◌≡◌, map, take}
use Rattle.crew_carry.proofs.alike.by_vector.Given as goal

abbrev pub invariant-loop-label : goal.invariant-loop-label
invariant-loop-label g l = map (λ b. b.now) l.sorted.items ≡ take l.label-index l.labels
