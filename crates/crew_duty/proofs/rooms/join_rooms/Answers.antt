use Rattle.std.proofs.Common.{◌+◌, ◌<◌, ◌++◌, ◌∙◌, ℕ, ap, ap₂, arith, length, sym, take}
use Rattle.std.specs.List.{flat_map}
use Rattle.std.proofs.lemmas.Iterator.Adapters.{YieldsList-from_vec}
use Rattle.std.proofs.lemmas.Iterator.Consumers.{YieldsList-end, YieldsList-turn}
use Rattle.std.proofs.lemmas.List.{length_push, take_all}
use Rattle.std.proofs.lemmas.List.Folds.{length-flat_map-take}
use Rattle.crew_duty.specs.declared.rooms.Room.{Room}
use Rattle.crew_duty.proofs.InRooms.{joined-more}
use Rattle.crew_duty.proofs.rooms.join_rooms.Goals as goal

pub push-requires : goal.push-requires
push-requires c =
    let D = λ (r : Room). r.duties.items in
    let v = c.args.rooms in
    let room = c.in-Some.room in
    let i = length c.loop-room.yielded in
    let gives = c.into_iter-room-iterator.ensures.into_iter_gives in
    let road = YieldsList-from_vec {s = c.into_iter-room-iterator.result} v.items gives.0 (gives.1 ∙ v.ok.0) in
    let at = YieldsList-turn road c.loop-room.yielded c.loop-room.room-iterator c.loop-room.yielded_by c.next.result c.next.new.self room c.in-Some.is c.next.ensures.steps in
    let within : i < length v.items = omega (arith, at.0) in
    let most = length-flat_map-take D v.items i room within in
    let here = ap length (c.in_ok-into_block.ensures ∙ ap D at.1) in
    omega (arith, ap length c.loop-room.invariant, here, most, c.requires.few)

pub loop-room-preserved : goal.loop-room-preserved
loop-room-preserved c =
    let D = λ (r : Room). r.duties.items in
    let v = c.args.rooms in
    let room = c.in-Some.room in
    let i = length c.loop-room.yielded in
    let gives = c.into_iter-room-iterator.ensures.into_iter_gives in
    let road = YieldsList-from_vec {s = c.into_iter-room-iterator.result} v.items gives.0 (gives.1 ∙ v.ok.0) in
    let at = YieldsList-turn road c.loop-room.yielded c.loop-room.room-iterator c.loop-room.yielded_by c.next.result c.next.new.self room c.in-Some.is c.next.ensures.steps in
    let within : i < length v.items = omega (arith, at.0) in
    let here = c.in_ok-into_block.ensures ∙ ap D at.1 in
    let long = ap (λ (n : ℕ). flat_map D (take n v.items)) (length_push c.loop-room.yielded room) in
    c.in_ok-push.ensures.ok ∙ (ap₂ ◌++◌ c.loop-room.invariant here ∙ (sym (joined-more v.items i room within) ∙ sym long))

pub returns : goal.returns
returns c =
    let D = λ (r : Room). r.duties.items in
    let v = c.args.rooms in
    let gives = c.into_iter-room-iterator.ensures.into_iter_gives in
    let road = YieldsList-from_vec {s = c.into_iter-room-iterator.result} v.items gives.0 (gives.1 ∙ v.ok.0) in
    let end = YieldsList-end road c.loop-room.yielded c.loop-room.room-iterator c.loop-room.yielded_by c.next.result c.next.new.self c.in-None.is c.next.ensures.steps in
    c.loop-room.invariant ∙ ap (flat_map D) (take_all (length c.loop-room.yielded) v.items (omega (arith, end.1)))
