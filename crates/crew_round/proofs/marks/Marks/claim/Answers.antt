use Rattle.std.proofs.Common.{subst, sym}
use Rattle.crew_round.proofs.Marked.{none-claimed}
use Rattle.crew_round.specs.Marks.{IsMarked, Marks, NoneReusable}
use Rattle.crew_round.specs.declared.mark.Mark.TheVariants.{Waiting}
use Rattle.crew_round.proofs.marks.Marks.claim.Goals as goal

pub invariant_of-self : goal.invariant_of-self
invariant_of-self c =
    let m = c.self.inside.marking in
    subst NoneReusable (sym c.claim.ensures) (none-claimed m c.args.place c.self.invariant (subst (λ (z : Marks). IsMarked z c.args.place Waiting) (sym c.self.view_is) c.requires.0))
