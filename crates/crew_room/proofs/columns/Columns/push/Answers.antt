use Rattle.std.proofs.Common.{◌++◌, ◌∙◌, ap, arith, rules, w32, [], ◌∷◌, ℕ, FitsSigned}
use Rattle.std.proofs.lemmas.Int.{to_z-of_z}
use Rattle.crew_pool.specs.Marks.{mark_at}
use Rattle.crew_pool.proofs.ColumnLemmas.{long_view, rows_joined, room_of, four_marks}
use Rattle.crew_room.proofs.columns.Columns.push.Goals as goal

pub push_reserved-requires : goal.push_reserved-requires
push_reserved-requires c =
    let long = long_view c.self.invariant c.self.view_is in
    let room = (room_of c.self.view_is c.in_ok-reserve.ensures.ok).first in
    let held = c.self.inside.first.ok.0 in
    omega (arith, long, room, held)

pub push_reserved-requires-2 : goal.push_reserved-requires-2
push_reserved-requires-2 c =
    let long = long_view c.self.invariant c.self.view_is in
    let room = (room_of c.self.view_is c.in_ok-reserve.ensures.ok).second in
    let held = c.self.inside.second.ok.0 in
    omega (arith, long, room, held, c.self.invariant.second)

pub push_reserved-requires-3 : goal.push_reserved-requires-3
push_reserved-requires-3 c =
    let long = long_view c.self.invariant c.self.view_is in
    let room = (room_of c.self.view_is c.in_ok-reserve.ensures.ok).third in
    let held = c.self.inside.third.ok.0 in
    omega (arith, long, room, held, c.self.invariant.third)

pub push_reserved-requires-4 : goal.push_reserved-requires-4
push_reserved-requires-4 c =
    let long = long_view c.self.invariant c.self.view_is in
    let room = (room_of c.self.view_is c.in_ok-reserve.ensures.ok).fourth in
    let held = c.self.inside.fourth.ok.0 in
    omega (arith, long, room, held, c.self.invariant.fourth)

pub returns-clause-ok : goal.returns-clause-ok
returns-clause-ok c =
    let marks = c.args.marks in
    let same = λ (k : ℕ) (f : FitsSigned w32 (mark_at k marks)). to_z-of_z w32 (mark_at k marks) f in
    rw (c.push_reserved.ensures.items, c.push_reserved-2.ensures.items, c.push_reserved-3.ensures.items, c.push_reserved-4.ensures.items, same 0 (search rules), same 1 (search rules), same 2 (search rules), same 3 (search rules))
    (rows_joined c.self.invariant (mark_at 0 marks ∷ []) (mark_at 1 marks ∷ []) (mark_at 2 marks ∷ []) (mark_at 3 marks ∷ [])
    ∙ (ap (λ r. r ++ (mark_at 0 marks ∷ mark_at 1 marks ∷ mark_at 2 marks ∷ mark_at 3 marks ∷ []) ∷ []) (ap (λ r. r.rows) c.self.view_is ∙ c.in_ok-reserve.ensures.rows)
    ∙ ap (λ r. c.args.self.now.rows ++ r ∷ []) (four_marks marks (search rules))))
