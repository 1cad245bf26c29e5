use Rattle.std.proofs.Common.{◌∙◌, ap, map, subst, sym}
use Rattle.crew_solve.proofs.Entered.{entries-rise}
use Rattle.crew_solve.proofs.Found.{may-be-shown}
use Rattle.crew_solve.specs.Machinery.Lent.{by_vector, entry_of}
use Rattle.crew_vector.specs.Fronts.{RiseByVector}
use Rattle.crew_solve.proofs.front_view.FrontView.lookup.Goals as goal

pub new-requires : goal.new-requires
new-requires c = let f = c.self.inside in may-be-shown f.sweep.now f.duty.now f.rank f.labels.now f.view c.self.invariant

pub returns-clause-entries : goal.returns-clause-entries
returns-clause-entries c = let f = c.self.inside in sym c.self.view_is ∙ (ap (λ ls. by_vector (map (entry_of f.sweep.now f.duty.now.release) ls)) c.self.invariant.same ∙ ap by_vector (sym c.new.ensures))

pub returns-clause-rises : goal.returns-clause-rises
returns-clause-rises c = let f = c.self.inside in subst RiseByVector c.self.view_is (entries-rise f.sweep.now f.duty.now.release f.view c.self.invariant.lent.apart)
