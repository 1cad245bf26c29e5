use Rattle.std.proofs.Common.{◌∙◌, Option, Some, inl, refl, sym, subst}
use Rattle.crew_label.specs.Boarding.{linked}
use Rattle.crew_label.specs.declared.label.Label.{Label}
use Rattle.crew_resource.specs.Members.{Member}
use Rattle.crew_room.proofs.join.meet_boarding.Goals as goal

pub meet_own-requires-clause-label : goal.meet_own-requires-clause-label
meet_own-requires-clause-label g c =
    let l : Label g.row.R-Value.Denot = record { value = c.in-Some.value; before = Some c.args.link } in
    c.requires.counts l (subst (λ (o : Option g.row.R-Value.Denot). Member (linked o c.args.link) l) (sym c.in-Some.is ∙ c.board.ensures) (inl refl))
