use Rattle.std.proofs.Common.{◌≡◌, subst}
use Rattle.crew_round.specs.Marks.{AreDoneBefore, IsMarked, Marks}
use Rattle.crew_round.specs.declared.mark.Mark.{Mark}
use Rattle.crew_round.specs.declared.mark.Mark.TheVariants.{Waiting}
use Rattle.crew_round.proofs.marks.Marks.is_clear.Goals as goal

pub returns-clause-started : goal.returns-clause-started
returns-clause-started c = subst (λ (z : Marks). (mark : Mark) → IsMarked z c.args.place mark → (mark ≡ Waiting → ⊥) → AreDoneBefore z c.args.place) c.self.view_is c.is_clear.ensures.started
