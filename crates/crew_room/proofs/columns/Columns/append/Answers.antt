use Rattle.std.proofs.Common.{arith}
use Rattle.crew_pool.proofs.ColumnLemmas.{long_view, rows_joined, room_of}
use Rattle.crew_room.proofs.columns.Columns.append.Goals as goal

pub append_reserved-requires : goal.append_reserved-requires
append_reserved-requires c =
    let long = long_view c.self.invariant c.self.view_is in
    let more = long_view c.other.invariant c.other.view_is in
    let room = (room_of c.self.view_is c.requires).first in
    let held = c.self.inside.first.ok.0 in
    let joins = c.other.inside.first.ok.0 in
    omega (arith, long, more, room, held, joins)

pub append_reserved-requires-2 : goal.append_reserved-requires-2
append_reserved-requires-2 c =
    let long = long_view c.self.invariant c.self.view_is in
    let more = long_view c.other.invariant c.other.view_is in
    let room = (room_of c.self.view_is c.requires).second in
    let held = c.self.inside.second.ok.0 in
    let joins = c.other.inside.second.ok.0 in
    omega (arith, long, more, room, held, joins, c.self.invariant.second, c.other.invariant.second)

pub append_reserved-requires-3 : goal.append_reserved-requires-3
append_reserved-requires-3 c =
    let long = long_view c.self.invariant c.self.view_is in
    let more = long_view c.other.invariant c.other.view_is in
    let room = (room_of c.self.view_is c.requires).third in
    let held = c.self.inside.third.ok.0 in
    let joins = c.other.inside.third.ok.0 in
    omega (arith, long, more, room, held, joins, c.self.invariant.third, c.other.invariant.third)

pub append_reserved-requires-4 : goal.append_reserved-requires-4
append_reserved-requires-4 c =
    let long = long_view c.self.invariant c.self.view_is in
    let more = long_view c.other.invariant c.other.view_is in
    let room = (room_of c.self.view_is c.requires).fourth in
    let held = c.self.inside.fourth.ok.0 in
    let joins = c.other.inside.fourth.ok.0 in
    omega (arith, long, more, room, held, joins, c.self.invariant.fourth, c.other.invariant.fourth)

pub returns-clause-rows : goal.returns-clause-rows
returns-clause-rows c =
    rw (c.append_reserved.ensures.items, c.append_reserved-2.ensures.items, c.append_reserved-3.ensures.items, c.append_reserved-4.ensures.items, ← c.self.view_is, ← c.other.view_is)
    (rows_joined c.self.invariant c.other.inside.first.items c.other.inside.second.items c.other.inside.third.items c.other.inside.fourth.items)
