use Rattle.std.proofs.Common.{ap, arith, length}
use Rattle.crew_round.proofs.Tallies.{count-few, count-here, tallied-by}
use Rattle.crew_round.specs.Marks.{is_done, is_out}
use Rattle.crew_round.proofs.cells.Cells.set.Goals as goal

pub counted_anew-self-inside-requires-clause-some : goal.counted_anew-self-inside-requires-clause-some
counted_anew-self-inside-requires-clause-some c =
    let long = ap length c.self.view_is in
    let h = c.requires.place in
    count-here is_done c.self.inside.marks.items c.args.place c.self.inside.done c.index-was.result.now c.is_done.result c.self.invariant.done_count (omega (arith, h, long)) c.index-was.ensures c.is_done.ensures

pub counted_anew-self-inside-requires-clause-few : goal.counted_anew-self-inside-requires-clause-few
counted_anew-self-inside-requires-clause-few c =
    let long = ap length c.self.view_is in
    let few = c.requires.few in
    let most = count-few is_done c.self.inside.marks.items in
    let is = c.self.invariant.done_count in
    omega (arith, few, long, most, is)

pub counted_anew-self-inside-requires-2-clause-some : goal.counted_anew-self-inside-requires-2-clause-some
counted_anew-self-inside-requires-2-clause-some c =
    let long = ap length c.self.view_is in
    let h = c.requires.place in
    count-here is_out c.self.inside.marks.items c.args.place c.self.inside.out c.index-was.result.now c.is_out.result c.self.invariant.out_count (omega (arith, h, long)) c.index-was.ensures c.is_out.ensures

pub counted_anew-self-inside-requires-2-clause-few : goal.counted_anew-self-inside-requires-2-clause-few
counted_anew-self-inside-requires-2-clause-few c =
    let long = ap length c.self.view_is in
    let few = c.requires.few in
    let most = count-few is_out c.self.inside.marks.items in
    let is = c.self.invariant.out_count in
    omega (arith, few, long, most, is)

pub invariant_of-self : goal.invariant_of-self
invariant_of-self c =
    let long = ap length c.self.view_is in
    let h = c.requires.place in
    tallied-by c.self.inside.marks.items c.self.inside.undone c.set.new.self c.self.inside.done c.self.inside.out c.counted_anew-self-inside.result c.counted_anew-self-inside-2.result c.args.place c.index-was.result.now c.args.mark
    c.is_done.result c.is_done-2.result c.is_out.result c.is_out-2.result c.is_done-3.result c.self.invariant (omega (arith, h, long)) c.index-was.ensures c.is_done.ensures c.is_done-2.ensures c.is_out.ensures c.is_out-2.ensures c.is_done-3.ensures
    c.counted_anew-self-inside.ensures c.counted_anew-self-inside-2.ensures c.set.ensures
