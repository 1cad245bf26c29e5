use Rattle.std.proofs.Common.{◌∙◌, List, subst, sym}
use Rattle.crew_resource.specs.Members.{Member}
use Rattle.crew_solve.proofs.Beside.{one-front}
use Rattle.crew_solve.proofs.Lent.{Entry}
use Rattle.crew_solve.proofs.front_view.FrontView.is_same.Goals as goal

pub returns-then-len : goal.returns-then-len
returns-then-len c =
    let are = c.are_entries_of.ensures in (
      λ t. one-front c.args.self.now c.args.other.now are.one are.other (are.all.0 t) (sym c.len.ensures ∙ (c.if-len.true ∙ c.len-2.ensures)),
      λ e. are.all.1 (λ x m. subst (λ (l : List Entry). Member l x) e m),
    )
