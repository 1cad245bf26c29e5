use Rattle.std.proofs.Common.{◌∙◌, List, ap, subst}
use Rattle.std.specs.Prelude.{slice_get}
use Rattle.crew_pairing.specs.Legs.{Leg}
use Rattle.crew_pairing.specs.declared.vector.PairingVector.{PairingVector}
use Rattle.crew_solve.proofs.Entered.{entries-rise}
use Rattle.crew_solve.specs.Machinery.Lent.{after}
use Rattle.crew_vector.specs.Fronts.{RiseByVector}
use Rattle.crew_solve.proofs.front_view.FrontView.first_after.Goals as goal

pub returns-clause-first : goal.returns-clause-first
returns-clause-first c = c.least_after.ensures ∙ ap (λ (l : List (PairingVector × List (List Leg))). slice_get (after c.args.last.now l) 0) c.self.view_is

pub returns-clause-rises : goal.returns-clause-rises
returns-clause-rises c = let f = c.self.inside in subst RiseByVector c.self.view_is (entries-rise f.sweep.now f.duty.now.release f.view c.self.invariant.lent.apart)
