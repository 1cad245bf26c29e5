use Rattle.std.proofs.Common.{subst, sym}
use Rattle.crew_round.proofs.Marked.{none-other}
use Rattle.crew_round.specs.Marks.{IsReusable, Marks, NoneReusable}
use Rattle.crew_round.specs.declared.mark.Mark.TheVariants.{Waiting}
use Rattle.crew_round.proofs.marks.Marks.free.Goals as goal

pub invariant_of-self : goal.invariant_of-self
invariant_of-self c =
    let m = c.self.inside.marking in
    subst NoneReusable (sym c.free.ensures.marks) (none-other m c.args.place Waiting c.self.invariant (subst (λ (z : Marks). IsReusable z c.args.place → ⊥) c.free.ensures.marks c.free.ensures.other))
