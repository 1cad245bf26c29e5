use Rattle.std.proofs.Common.{◌≡◌, length, take}
use Rattle.std.specs.List.{flat_map}
use Rattle.crew_duty.proofs.rooms.join_rooms.Given as goal

abbrev pub invariant-loop-room : goal.invariant-loop-room
invariant-loop-room l = l.list ≡ flat_map (λ r. r.duties.items) (take (length l.yielded) l.fn.rooms.items)
