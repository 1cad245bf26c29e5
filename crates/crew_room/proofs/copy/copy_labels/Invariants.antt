use Rattle.std.proofs.Common.{◌≡◌, take}
use Rattle.crew_room.proofs.copy.copy_labels.Given as goal

abbrev pub invariant-loop-label : goal.invariant-loop-label
invariant-loop-label g l = l.copied.items ≡ take l.label-index l.labels
