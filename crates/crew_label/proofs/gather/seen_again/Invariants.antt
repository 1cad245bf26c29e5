use Rattle.std.proofs.Common.{◌≡◌, take}
use Rattle.crew_label.proofs.gather.seen_again.Given as goal

abbrev pub invariant-loop-each : goal.invariant-loop-each
invariant-loop-each g l = l.again.items ≡ take l.each-index l.seen
