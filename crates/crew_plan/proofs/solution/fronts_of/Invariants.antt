use Rattle.std.proofs.Common.{◌≡◌, false, take}
use Rattle.std.specs.Arc.{arc_value}
use Rattle.std.specs.Ordering.{eq_by_cmp}
use Rattle.crew_flights.specs.Codes.{code_cmp}
use Rattle.crew_resource.specs.Members.{Each}
use Rattle.crew_fronts.specs.Fronts.{BaseFronts}
use Rattle.crew_plan.proofs.solution.fronts_of.Given as goal

abbrev pub invariant-loop-fronts : goal.invariant-loop-fronts
invariant-loop-fronts l = Each (λ a. eq_by_cmp code_cmp (arc_value {X = BaseFronts} a).base l.base ≡ false) (take l.fronts-index l.bases)
