use Rattle.std.proofs.Common.{◌≡◌, drop, map, take}
use Rattle.crew_pairing.specs.Machinery.Listing.{from_place}
use Rattle.crew_duty.specs.Machinery.Held.{held}
use Rattle.crew_duty.proofs.rooms.fill_each.Given as goal

abbrev pub invariant-loop-room : goal.invariant-loop-room
invariant-loop-room l =
    (map (λ r. r.duties.items) (take l.room-index l.rooms) ≡ map (λ r. from_place l.plan.settings.now (held l.plan) r.place) (take l.room-index l.fn.rooms))
    × (drop l.room-index l.rooms ≡ drop l.room-index l.fn.rooms)
