use Rattle.std.proofs.Common.{◌∙◌, ap, sym}
use Rattle.crew_answers.specs.ShortPairings.{with_no_pasts}
use Rattle.crew_fronts.specs.Machinery.Kinds.{entries_of}
use Rattle.crew_fronts.proofs.Sweeps.{same-sums}
use Rattle.crew_fronts.proofs.front_view.FrontView.is_same.Goals as goal

pub returns-in-Swept-Swept : goal.returns-in-Swept-Swept
returns-in-Swept-Swept c =
    let one = sym c.self.view_is ∙ ap entries_of c.in-Swept-Swept.is-0 in
    let other = sym c.other.view_is ∙ ap entries_of c.in-Swept-Swept.is-1 in (
      λ t. one ∙ (ap with_no_pasts (c.is_same.ensures.0 t) ∙ sym other),
      λ e. c.is_same.ensures.1 (same-sums c.in-Swept-Swept.one c.in-Swept-Swept.other (sym one ∙ (e ∙ other))),
    )
