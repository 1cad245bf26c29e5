use Rattle.std.proofs.Common.{◌∙◌, ap, sym, length, arith, rules, w32, Some, []}
use Rattle.std.specs.Prelude.{slice_get}
use Rattle.std.proofs.lemmas.Int.{to_z-of_z}
use Rattle.std.proofs.lemmas.Option.{slice_get-get_or}
use Rattle.crew_pool.specs.Machinery.Columns.{rows_of}
use Rattle.crew_pool.proofs.ColumnLemmas.{long_view, row_at, same_four}
use Rattle.crew_room.proofs.columns.Columns.at.Goals as goal

pub index-requires : goal.index-requires
index-requires c = let long = long_view c.self.invariant c.self.view_is in let held = c.self.inside.first.ok.0 in let within = c.requires in omega (arith, within, long, held)

pub index-requires-2 : goal.index-requires-2
index-requires-2 c = let long = long_view c.self.invariant c.self.view_is in let held = c.self.inside.second.ok.0 in let within = c.requires in omega (arith, within, long, held, c.self.invariant.second)

pub index-requires-3 : goal.index-requires-3
index-requires-3 c = let long = long_view c.self.invariant c.self.view_is in let held = c.self.inside.third.ok.0 in let within = c.requires in omega (arith, within, long, held, c.self.invariant.third)

pub index-requires-4 : goal.index-requires-4
index-requires-4 c = let long = long_view c.self.invariant c.self.view_is in let held = c.self.inside.fourth.ok.0 in let within = c.requires in omega (arith, within, long, held, c.self.invariant.fourth)

pub returns : goal.returns
returns c =
    let long = long_view c.self.invariant c.self.view_is in
    let short = c.requires in
    let place = c.args.place in
    let rows = rows_of c.self.inside.first.items c.self.inside.second.items c.self.inside.third.items c.self.inside.fourth.items in
    ap (λ r. slice_get r.rows place) (sym c.self.view_is)
    ∙ (slice_get-get_or rows place [] (let is = ap (λ r. length r.rows) c.self.view_is in omega (arith, short, is))
    ∙ ap Some (row_at c.self.invariant place c.index.result.now c.index-2.result.now c.index-3.result.now c.index-4.result.now [] (omega (arith, short, long))
    ∙ same_four (sym c.index.ensures ∙ sym (to_z-of_z w32 c.index.result.now (search rules)))
    (sym c.index-2.ensures ∙ sym (to_z-of_z w32 c.index-2.result.now (search rules)))
    (sym c.index-3.ensures ∙ sym (to_z-of_z w32 c.index-3.result.now (search rules)))
    (sym c.index-4.ensures ∙ sym (to_z-of_z w32 c.index-4.result.now (search rules)))))
