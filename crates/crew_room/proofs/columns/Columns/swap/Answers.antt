use Rattle.std.proofs.Common.{◌∙◌, ap, arith}
use Rattle.std.specs.List.{swap}
use Rattle.crew_pool.proofs.ColumnLemmas.{rows_swapped, long_view}
use Rattle.crew_room.proofs.columns.Columns.swap.Goals as goal

pub swap-requires-clause-i_in_bounds : goal.swap-requires-clause-i_in_bounds
swap-requires-clause-i_in_bounds c = let long = long_view c.self.invariant c.self.view_is in let held = c.self.inside.first.ok.0 in let within = c.requires.first in omega (arith, within, long, held)

pub swap-requires-clause-j_in_bounds : goal.swap-requires-clause-j_in_bounds
swap-requires-clause-j_in_bounds c = let long = long_view c.self.invariant c.self.view_is in let held = c.self.inside.first.ok.0 in let within = c.requires.second in omega (arith, within, long, held)

pub swap-requires-2-clause-i_in_bounds : goal.swap-requires-2-clause-i_in_bounds
swap-requires-2-clause-i_in_bounds c = let long = long_view c.self.invariant c.self.view_is in let held = c.self.inside.second.ok.0 in let within = c.requires.first in omega (arith, within, long, held, c.self.invariant.second)

pub swap-requires-2-clause-j_in_bounds : goal.swap-requires-2-clause-j_in_bounds
swap-requires-2-clause-j_in_bounds c = let long = long_view c.self.invariant c.self.view_is in let held = c.self.inside.second.ok.0 in let within = c.requires.second in omega (arith, within, long, held, c.self.invariant.second)

pub swap-requires-3-clause-i_in_bounds : goal.swap-requires-3-clause-i_in_bounds
swap-requires-3-clause-i_in_bounds c = let long = long_view c.self.invariant c.self.view_is in let held = c.self.inside.third.ok.0 in let within = c.requires.first in omega (arith, within, long, held, c.self.invariant.third)

pub swap-requires-3-clause-j_in_bounds : goal.swap-requires-3-clause-j_in_bounds
swap-requires-3-clause-j_in_bounds c = let long = long_view c.self.invariant c.self.view_is in let held = c.self.inside.third.ok.0 in let within = c.requires.second in omega (arith, within, long, held, c.self.invariant.third)

pub swap-requires-4-clause-i_in_bounds : goal.swap-requires-4-clause-i_in_bounds
swap-requires-4-clause-i_in_bounds c = let long = long_view c.self.invariant c.self.view_is in let held = c.self.inside.fourth.ok.0 in let within = c.requires.first in omega (arith, within, long, held, c.self.invariant.fourth)

pub swap-requires-4-clause-j_in_bounds : goal.swap-requires-4-clause-j_in_bounds
swap-requires-4-clause-j_in_bounds c = let long = long_view c.self.invariant c.self.view_is in let held = c.self.inside.fourth.ok.0 in let within = c.requires.second in omega (arith, within, long, held, c.self.invariant.fourth)

pub returns-clause-rows : goal.returns-clause-rows
returns-clause-rows c =
    let long = long_view c.self.invariant c.self.view_is in
    rw (c.swap.ensures.items, c.swap-2.ensures.items, c.swap-3.ensures.items, c.swap-4.ensures.items) (
    rows_swapped c.self.invariant c.args.a c.args.b (let within = c.requires.first in omega (arith, within, long)) (let within = c.requires.second in omega (arith, within, long))
    ∙ ap (λ r. swap r.rows c.args.a c.args.b) c.self.view_is)
