use Rattle.std.proofs.Common.{◌≡◌, drop, map}
use Rattle.std.specs.Prelude.{slice_get}
use Rattle.std.specs.Arc.{arc_value}
use Rattle.crew_version.specs.Machinery.Chunks.{all_of}
use Rattle.crew_version.proofs.chunks.item_at.Given as goal

abbrev pub invariant-loop-chunk : goal.invariant-loop-chunk
invariant-loop-chunk g l = slice_get (all_of (map arc_value (drop l.chunk-index l.chunks))) l.left ≡ slice_get (all_of (map arc_value l.chunks)) l.place
