use Rattle.std.proofs.Common.{◌≡◌, min, length, sum}
use Rattle.std.specs.List.{flat_map, range_with_len}
use Rattle.crew_duty.specs.Machinery.Held.{held}
use Rattle.crew_duty.specs.Machinery.Counts.{AreCounts}
use Rattle.crew_pairing.specs.Machinery.Listing.{from_place}
use Rattle.crew_duty.proofs.beside.count_beside.Given as goal

abbrev pub invariant-loop-place : goal.invariant-loop-place
invariant-loop-place l = record {
  counts : AreCounts (from_place l.plan.settings.now (held l.plan)) 0 l.place l.counts.items;
  total : l.total ≡ sum l.counts.items;
  all : l.total ≡ min (length (flat_map (from_place l.plan.settings.now (held l.plan)) (range_with_len 0 l.place))) 200_001;
}
