use Rattle.std.proofs.Common.{ap, arith, length, ◌∙◌}
use Rattle.crew_round.proofs.Tallies.{long-copies, marks-more}
use Rattle.crew_round.specs.declared.mark.Mark.TheVariants.{Done}
use Rattle.crew_round.proofs.cells.cells_of.Goals as goal

pub loop-place-init : goal.loop-place-init
loop-place-init c = record { long = ap length c.in_ok-cells.ensures ∙ long-copies (length c.args.done.now) Done; right = λ k l. absurd (omega (arith, l)) }

pub set-requires-clause-place : goal.set-requires-clause-place
set-requires-clause-place c =
    let long = c.loop-place.invariant.long in
    let h = c.loop-place-test.true in
    omega (arith, h, long)

pub set-requires-clause-few : goal.set-requires-clause-few
set-requires-clause-few c =
    let long = c.loop-place.invariant.long in
    let h = c.requires in
    omega (arith, h, long)

pub loop-place-preserved : goal.loop-place-preserved
loop-place-preserved c = rw c.set.ensures (marks-more c.args.done.now c.loop-place.place c.loop-place.cells c.mark_of-mark.result c.loop-place.invariant c.loop-place-test.true c.mark_of-mark.ensures)

pub returns : goal.returns
returns c = record {
  long = c.loop-place.invariant.long;
  right = λ k l. c.loop-place.invariant.right k (let h = c.loop-place-test.false in omega (arith, l, h));
}
