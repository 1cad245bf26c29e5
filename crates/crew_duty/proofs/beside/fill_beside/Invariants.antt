use Rattle.std.proofs.Common.{◌≡◌}
use Rattle.std.specs.List.{flat_map, range_with_len}
use Rattle.crew_pairing.specs.Machinery.Listing.{from_place}
use Rattle.crew_duty.specs.Machinery.Held.{held}
use Rattle.crew_duty.proofs.beside.fill_beside.Given as goal

abbrev pub invariant-loop-place : goal.invariant-loop-place
invariant-loop-place l = l.list ≡ flat_map (from_place l.plan.settings.now (held l.plan)) (range_with_len 0 l.place)
