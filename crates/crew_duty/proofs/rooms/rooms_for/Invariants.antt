use Rattle.std.proofs.Common.{◌≡◌, map, take}
use Rattle.std.specs.List.{range_with_len}
use Rattle.crew_duty.proofs.rooms.rooms_for.Given as goal

abbrev pub invariant-loop-place : goal.invariant-loop-place
invariant-loop-place l =
    (map (λ r. r.place) l.rooms.items ≡ range_with_len 0 l.place)
    × (map (λ r. r.count) l.rooms.items ≡ take l.place l.counts)
