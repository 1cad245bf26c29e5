use Rattle.std.proofs.Common.{◌≡◌, min, length, sum, take}
use Rattle.std.specs.List.{flat_map, range_with_len}
use Rattle.crew_duty.specs.Machinery.Held.{held}
use Rattle.crew_duty.specs.Machinery.Counts.{AreCounts}
use Rattle.crew_pairing.specs.Machinery.Listing.{from_place}
use Rattle.crew_duty.proofs.pieces.count_piece.Given as goal

abbrev pub invariant-loop-place : goal.invariant-loop-place
invariant-loop-place l =
    AreCounts (from_place l.plan.settings.now (held l.plan)) l.from l.place (take l.place l.counts)
    × (l.total ≡ sum (take l.place l.counts))
    × (l.total ≡ min (length (flat_map (from_place l.plan.settings.now (held l.plan)) (range_with_len l.from l.place))) 200_001)
    × (length l.counts ≡ length l.fn.counts)
