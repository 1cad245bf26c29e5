use Rattle.std.proofs.Common.{◌≡◌, min, sum, take}
use Rattle.crew_duty.proofs.pieces.total_of.Given as goal

abbrev pub invariant-loop-count : goal.invariant-loop-count
invariant-loop-count l = l.total ≡ min (sum (take l.count-index l.counts)) 18_446_744_073_709_551_615
