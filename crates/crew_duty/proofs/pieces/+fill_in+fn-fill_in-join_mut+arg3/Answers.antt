use Rattle.std.proofs.Common.{rules, ◌≡◌, arith, map}
use Rattle.crew_pairing.specs.Machinery.Listing.{from_place}
use Rattle.crew_duty.specs.Machinery.Held.{held}
use Rattle.crew_duty.specs.declared.rooms.Room.{Room}
use Rattle.crew_duty.proofs.InRooms.{filled-append, rooms-back, rooms-front}
use Rattle.crew_duty.proofs.pieces.+fill_in+fn-fill_in-join_mut+arg3.Goals as goal

pub join_mut-these-requires-after_bounds : goal.join_mut-these-requires-after_bounds
join_mut-these-requires-after_bounds g t c κs within =
    let s = c.args.plan.now.settings.now in
    let flights = held c.args.plan.now in
    let front = c.split_at_mut-front.result.0.now in
    let back = c.split_at_mut-front.result.1.now in
    let halves = c.split_at_mut-front.ensures.value in (
      (c.requires.plan, rooms-front s flights front back c.args.rooms.now halves c.requires.rooms),
      (omega (arith), (λ a m. m, ((search rules, c.requires.plan, rooms-back s flights front back c.args.rooms.now halves c.requires.rooms), search rules))),
    )

pub returns : goal.returns
returns g t c =
    let F = from_place c.args.plan.now.settings.now (held c.args.plan.now) in
    let front = c.split_at_mut-front.result.0.now in
    let back = c.split_at_mut-front.result.1.now in
    let D = λ (r : Room). r.duties.items in
    let G = λ (r : Room). F r.place in
    let early : map D c.front-1.given.0 ≡ map G front = search rules in
    let late : map D c.back-1.given.0 ≡ map G back = search rules in
    filled-append F c.front-1.given.0 c.back-1.given.0 front back c.args.rooms.now c.split_at_mut-front.ensures.value early late
