use Rattle.std.proofs.Common.{◌<◌, arith, length, subst, sym}
use Rattle.std.proofs.lemmas.List.Elements.{All-get_or}
use Rattle.crew_pairing.specs.Machinery.Listing.{from_place}
use Rattle.crew_duty.specs.Machinery.Held.{held}
use Rattle.crew_duty.specs.Machinery.Rooms.{IsRoom}
use Rattle.crew_duty.proofs.InRooms.{filled-more, same-at}
use Rattle.crew_duty.proofs.rooms.fill_each.Goals as goal

pub fill-requires-clause-room : goal.fill-requires-clause-room
fill-requires-clause-room c =
    let rooms = c.loop-room.rooms in
    let before = c.args.rooms.now in
    let i = c.loop-room.room-index in
    let d = c.room-item.result in
    let IsIt = IsRoom c.args.plan.now.settings.now (held c.args.plan.now) in
    let within : i < length before = omega (arith, c.loop-room-test.true, c.loop-room.auto.rooms) in
    subst IsIt (sym (same-at before rooms i d c.loop-room.invariant.1)) (All-get_or IsIt before i d within c.requires.rooms)

pub loop-room-preserved : goal.loop-room-preserved
loop-room-preserved c =
    let F = from_place c.args.plan.now.settings.now (held c.args.plan.now) in
    let rooms = c.loop-room.rooms in
    let within : c.loop-room.room-index < length rooms = omega (arith, c.loop-room-test.true) in
    filled-more F c.args.rooms.now rooms c.loop-room.room-index c.room-item.result c.fill.new.self within c.loop-room.invariant.0 c.loop-room.invariant.1 c.in_ok-fill.ensures
