use Rattle.std.proofs.Common.{◌∙◌, ap, sym, refl, List, []}
use Rattle.std.proofs.lemmas.Bool.{and_from, and_parts}
use Rattle.crew_pairing.specs.Legs.{Leg}
use Rattle.crew_pairing.specs.declared.vector.PairingVector.{PairingVector}
use Rattle.crew_sweep.proofs.crew_step_lemmas.Sames.{entry-decides}
use Rattle.crew_solve.proofs.lookup.is_same_vector.Goals as goal

pub returns : goal.returns
returns c =
    let one : PairingVector × List (List Leg) = (c.args.one.now, []) in
    let other : PairingVector × List (List Leg) = (c.args.other.now, []) in (
      λ t. ap (λ z. z.0) ((entry-decides one other).0 (and_from _ _ (sym c.eq.ensures ∙ t) refl)),
      λ e. c.eq.ensures ∙ (and_parts _ _ ((entry-decides one other).1 (ap (λ z. let p : PairingVector × List (List Leg) = (z, []) in p) e))).0,
    )
