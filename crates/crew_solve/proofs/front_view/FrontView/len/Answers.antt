use Rattle.std.proofs.Common.{◌∙◌, List, ap, sym, length, map}
use Rattle.crew_pairing.specs.Legs.{Leg}
use Rattle.crew_pairing.specs.declared.vector.PairingVector.{PairingVector}
use Rattle.crew_solve.specs.Machinery.Lent.{entry_of}
use Rattle.crew_solve.proofs.Lent.{by_vector-long, map-long}
use Rattle.crew_solve.proofs.front_view.FrontView.len.Goals as goal

pub returns : goal.returns
returns c =
    let f = c.self.inside in
    let entries = map (entry_of f.sweep.now f.duty.now.release) f.view in
    c.len.ensures ∙ (sym (map-long (entry_of f.sweep.now f.duty.now.release) f.view) ∙ (sym (by_vector-long entries) ∙ ap (λ (l : List (PairingVector × List (List Leg))). length l) c.self.view_is))
