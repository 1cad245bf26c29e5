use Rattle.std.proofs.Common.{◌≡◌, take}
use Rattle.crew_label.specs.Machinery.Seeing.{labels_of}
use Rattle.crew_label.proofs.seen.copy_seen.Given as goal

abbrev pub invariant-loop-each : goal.invariant-loop-each
invariant-loop-each g l = l.labels.items ≡ labels_of (take l.each-index l.seen)
