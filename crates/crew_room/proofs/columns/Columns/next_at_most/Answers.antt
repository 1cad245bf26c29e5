use Rattle.std.proofs.Common.{◌+◌, ◌-◌, ◌≤◌, ◌<◌, ℕ, Option, Some, arith, length, refl}
use lib.Count.{count_trailing_zeros}
use Rattle.crew_pool.proofs.ColumnLemmas.{long_view}
use Rattle.crew_pool.proofs.NextLemmas.{next_from, next_of_four, none_joined, none_of_four, none_yet}
use Rattle.crew_room.proofs.columns.Columns.next_at_most.Goals as goal

pub loop-at-init : goal.loop-at-init
loop-at-init c = record {
  onward = omega arith;
  within = c.requires;
  none = none_yet c.args.self.now.rows c.args.marks.now c.args.from;
}

pub overflow_sub-count : goal.overflow_sub-count
overflow_sub-count c =
    let long = long_view c.self.invariant c.self.view_is in
    let held = c.self.inside.first.ok.0 in
    let is = c.len-count.ensures in
    let within = c.loop-at.invariant.within in
    omega (arith, long, held, is, within)

pub found_in_four-found-requires : goal.found_in_four-found-requires
found_in_four-found-requires c =
    let long = long_view c.self.invariant c.self.view_is in
    let held = c.self.inside.first.ok.0 in
    let is = c.len-count.ensures in
    let within = c.loop-at.invariant.within in
    let l = c.loop-at-test.true in
    omega (arith, long, held, is, within, l)

pub returns-then-found-ne0 : goal.returns-then-found-ne0
returns-then-found-ne0 c =
    let rows = c.args.self.now.rows in
    let marks = c.args.marks.now in
    let at = c.loop-at.at in
    let mask = c.found_in_four-found.result in
    let long = long_view c.self.invariant c.self.view_is in
    let held = c.self.inside.first.ok.0 in
    let is = c.len-count.ensures in
    let within = c.loop-at.invariant.within in
    let l = c.loop-at-test.true in
    let room : at + 4 ≤ length rows = omega (arith, long, held, is, within, l) in
    let some : 0 < mask = grind (arith, c.if-found-ne0.true) in
    let r = count_trailing_zeros 64 mask in
    let o : Option ℕ = Some (at + r) in
    next_from rows marks c.args.from at o c.loop-at.invariant.onward c.loop-at.invariant.none (next_of_four rows marks at room mask c.found_in_four-found.ensures r some refl)

pub loop-at-smaller : goal.loop-at-smaller
loop-at-smaller c =
    let rows = c.args.self.now.rows in
    let at = c.loop-at.at in
    let long = long_view c.self.invariant c.self.view_is in
    let held = c.self.inside.first.ok.0 in
    let is = c.len-count.ensures in
    let within = c.loop-at.invariant.within in
    let l = c.loop-at-test.true in
    let less : length rows - (at + 4) < length rows - at = omega (arith, long, held, is, within, l) in
    less

pub loop-at-preserved : goal.loop-at-preserved
loop-at-preserved c =
    let rows = c.args.self.now.rows in
    let marks = c.args.marks.now in
    let at = c.loop-at.at in
    let long = long_view c.self.invariant c.self.view_is in
    let held = c.self.inside.first.ok.0 in
    let is = c.len-count.ensures in
    let within = c.loop-at.invariant.within in
    let l = c.loop-at-test.true in
    let room : at + 4 ≤ length rows = omega (arith, long, held, is, within, l) in
    record {
      onward = let on = c.loop-at.invariant.onward in omega (arith, on);
      within = room;
      none = none_joined rows marks c.loop-at.invariant.none (none_of_four rows marks at room c.found_in_four-found.result c.found_in_four-found.ensures c.if-found-ne0.false);
    }

pub returns : goal.returns
returns c = next_from c.args.self.now.rows c.args.marks.now c.args.from c.loop-at.at c.next_by_one.result c.loop-at.invariant.onward c.loop-at.invariant.none c.next_by_one.ensures
