use Rattle.std.proofs.Common.{◌≡◌, ◌-◌, length}
use Rattle.crew_sweep.specs.Machinery.Parts.{AreSuffixes, IsPart}
use Rattle.crew_sweep.proofs.slide.suffix_pools.Given as goal

-- the suffixes so far, and the pool of the next
abbrev pub invariant-loop-nearer : goal.invariant-loop-nearer
invariant-loop-nearer l =
    AreSuffixes l.walks l.held l.window.end l.suffixes.items
    × (length l.suffixes.items ≡ l.nearer)
    × IsPart l.walks l.held (l.window.end - l.nearer) l.window.end l.growing
