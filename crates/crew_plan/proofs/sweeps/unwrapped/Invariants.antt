use Rattle.std.proofs.Common.{◌≡◌, ℕ, Some, length, map}
use Rattle.std.specs.Arc.{arc_value}
use Rattle.std.specs.Prelude.{slice_get}
use Rattle.crew_fronts.specs.crew_solve.Plans.{IsSweepIn}
use Rattle.crew_fronts.specs.crew_sweep.Sweeps.{BaseSweep}
use Rattle.crew_plan.proofs.sweeps.unwrapped.Given as goal

abbrev pub invariant-loop-base : goal.invariant-loop-base
invariant-loop-base l = (length l.sweeps.items ≡ l.base-index)
    × ((place : ℕ) (b : BaseSweep) → slice_get (map (arc_value {X = BaseSweep}) l.sweeps.items) place ≡ Some b → IsSweepIn l.plan place b)
