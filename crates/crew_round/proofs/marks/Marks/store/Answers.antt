use Rattle.std.proofs.Common.{◌∷◌, ◌++◌, [], subst, sym}
use Rattle.crew_round.proofs.Reused.{reuses-more, undone-less}
use Rattle.crew_round.specs.Marks.{Marks, Reuses, marked}
use Rattle.crew_round.proofs.marks.Marks.store.Goals as goal

pub loop-next-smaller : goal.loop-next-smaller
loop-next-smaller c = undone-less c.loop-next.self-inside.marking c.in-Some.next c.put-in-Some.new.self c.in-Some.ensures.0.0 c.put-in-Some.ensures

pub loop-next-preserved : goal.loop-next-preserved
loop-next-preserved c =
    let mid = c.loop-next.self-inside.marking in
    let places = c.loop-next.invariant.0 ++ c.in-Some.next ∷ [] in
    (places, subst (λ (z : Marks). Reuses (marked c.args.self.now c.args.place c.args.same) places z) (sym c.put-in-Some.ensures) (reuses-more (marked c.args.self.now c.args.place c.args.same) c.loop-next.invariant.0 mid c.in-Some.next c.loop-next.invariant.1 c.in-Some.ensures.0))
