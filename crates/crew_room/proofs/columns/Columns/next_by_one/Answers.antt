use Rattle.std.proofs.Common.{◌∙◌, [], ap, arith, sym}
use Rattle.crew_pool.specs.Marks.{are_at_most}
use Rattle.crew_pool.proofs.ColumnLemmas.{long_view}
use Rattle.crew_pool.proofs.LabelLemmas.{got}
use Rattle.crew_pool.proofs.NextLemmas.{none_more, none_yet}
use Rattle.crew_room.proofs.columns.Columns.next_by_one.Goals as goal

pub loop-place-init : goal.loop-place-init
loop-place-init c = none_yet c.args.self.now.rows c.args.marks.now c.args.from

pub at-requires : goal.at-requires
at-requires c =
    let long = long_view c.self.invariant c.self.view_is in
    let held = c.self.inside.first.ok.0 in
    let end = c.len-place-end.ensures in
    let l = c.loop-place-test.true in
    omega (arith, long, held, end, l)

pub loop-place-preserved : goal.loop-place-preserved
loop-place-preserved c =
    let marks = c.args.marks.now in
    let rows = c.args.self.now.rows in
    none_more rows marks c.loop-place.invariant (ap (λ r. are_at_most r marks) (got (λ r. r) (λ r. are_at_most r marks) rows c.loop-place.place c.at.result [] c.at.ensures) ∙ (sym c.are_at_most.ensures ∙ c.if-are_at_most.false))

pub returns-then-are_at_most : goal.returns-then-are_at_most
returns-then-are_at_most c =
    let marks = c.args.marks.now in
    let rows = c.args.self.now.rows in
    let long = long_view c.self.invariant c.self.view_is in
    let held = c.self.inside.first.ok.0 in
    let end = c.len-place-end.ensures in
    let l = c.loop-place-test.true in
    record {
      there = omega (arith, long, held, end, l);
      onward = c.loop-place.auto.place;
      passes = ap (λ r. are_at_most r marks) (got (λ r. r) (λ r. are_at_most r marks) rows c.loop-place.place c.at.result [] c.at.ensures) ∙ (sym c.are_at_most.ensures ∙ c.if-are_at_most.true);
      none = c.loop-place.invariant;
    }

pub returns : goal.returns
returns c k p q =
    let long = long_view c.self.invariant c.self.view_is in
    let held = c.self.inside.first.ok.0 in
    let end = c.len-place-end.ensures in
    let l = c.loop-place-test.false in
    c.loop-place.invariant k p (omega (arith, q, long, held, end, l))
