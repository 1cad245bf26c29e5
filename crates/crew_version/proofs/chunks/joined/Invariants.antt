use Rattle.std.proofs.Common.{◌≡◌, take, map}
use Rattle.std.specs.Arc.{arc_value}
use Rattle.crew_version.specs.Machinery.Chunks.{all_of}
use Rattle.crew_version.proofs.chunks.joined.Given as goal

abbrev pub invariant-loop-chunk : goal.invariant-loop-chunk
invariant-loop-chunk g l = l.all.items ≡ all_of (map arc_value (take l.chunk-index l.chunks))
