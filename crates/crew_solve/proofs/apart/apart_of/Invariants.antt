use Rattle.std.proofs.Common.{◌≡◌, ◌<◌, ◌-◌, List, [], Some, length, map}
use Rattle.std.specs.Arc.{arc_value}
use Rattle.std.specs.List.{flat_map}
use Rattle.crew_solve.specs.Apart.{taken_from}
use Rattle.crew_solve.specs.Machinery.Floors.{AreKnown}
use Rattle.crew_solve.specs.Machinery.Homes.{home_of}
use Rattle.crew_solve.specs.Machinery.Takes.{AreInOrder}
use Rattle.crew_solve.proofs.Taking.{Whole}
use Rattle.crew_vector.specs.declared.priced.PricedPairing.{PricedPairing}
use Rattle.crew_solve.proofs.apart.apart_of.Given as goal

abbrev pub invariant-loop-alloc : goal.invariant-loop-alloc
invariant-loop-alloc l = record {
  share : l.taken.share ≡ l.share;
  some : 0 < l.many;
  known : AreKnown (Some l.taken) (map arc_value l.fronts) l.known.items;
  whole : (all : List PricedPairing) → AreInOrder (flat_map home_of (map arc_value l.fronts)) all → Whole all l.taken ≡ taken_from l.share [] all;
}

abbrev pub decreases-loop-alloc : goal.decreases-loop-alloc
decreases-loop-alloc l = l.limit - length l.taken.pairings
