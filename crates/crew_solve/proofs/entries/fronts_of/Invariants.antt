use Rattle.std.proofs.Common.{◌≡◌, false, take}
use Rattle.std.specs.Arc.{arc_value}
use Rattle.std.specs.Ordering.{eq_by_cmp}
use Rattle.crew_flights.specs.Codes.{code_cmp}
use Rattle.crew_resource.specs.Members.{Each}
use Rattle.crew_sweep.specs.Sweeps.{BaseSweep}
use Rattle.crew_solve.proofs.entries.fronts_of.Given as goal

abbrev pub invariant-loop-found : goal.invariant-loop-found
invariant-loop-found l = Each (λ a. eq_by_cmp code_cmp (arc_value {X = BaseSweep} a).base l.base ≡ false) (take l.found-index l.fronts)
