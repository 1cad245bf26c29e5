use Rattle.std.proofs.Common.{◌∷◌, [], List, subst, sym}
use Rattle.crew_pairing.specs.Legs.{Leg}
use Rattle.crew_pairing.specs.Local.{IsLocalOf}
use Rattle.crew_pairing.specs.declared.duty.Duty.{Duty}
use Rattle.crew_pairing.specs.declared.vector.PairingVector.{PairingVector}
use Rattle.crew_resource.specs.Events.{labelled}
use Rattle.crew_vector.specs.Dominance.{is_at_most}
use Rattle.crew_step.specs.Machinery.Candidates.{openings}
use Rattle.crew_step.proofs.Fed.{by_opening}
use Rattle.crew_step.proofs.Listed.{local-none, opening-nowhere, opening-there}
use Rattle.crew_step.proofs.step.opened.Goals as goal
use Rattle.crew_step.proofs.step.opened.Goals.{then-is_opening+in_ok-offer_opening, else-is_opening}

abbrev Entries : Type 0
Entries = List (PairingVector × List (List Leg))

pub returns : goal.returns
returns c =
    let j = c.args.job.now in
    let opens = by_opening c.args.resource.now in
    let none : IsLocalOf is_at_most [] c.new-front.result = subst (λ (es : Entries). IsLocalOf is_at_most [] es) (sym c.new-front.ensures) (local-none is_at_most) in
    elim c.if-is_opening.branch [
      | then-is_opening+in_ok-offer_opening w ↦
          let there = opening-there opens j.base j.duty (c.is_opening.ensures.0 w.if-is_opening.true) in
          let new = w.offer_opening.new.front in
          subst (λ (es : Entries). IsLocalOf is_at_most (openings opens j.base j.duty) es) (sym w.front-is)
          (subst (λ (es : Entries). IsLocalOf is_at_most es new) (sym there)
          (subst (λ (d : Duty). IsLocalOf is_at_most (labelled (opens d) (d.key ∷ [])) new) w.duty.ensures.same (w.in_ok-offer_opening.ensures [] none)))
      | else-is_opening w ↦
          let nowhere = opening-nowhere opens j.base j.duty (λ e. let t = c.is_opening.ensures.1 e in let f = w.if-is_opening.false in let q : ⊥ = (cc) in q) in
          subst (λ (es : Entries). IsLocalOf is_at_most (openings opens j.base j.duty) es) (sym w.front-is)
          (subst (λ (es : Entries). IsLocalOf is_at_most es c.new-front.result) (sym nowhere) none)
    ]
