use Rattle.std.proofs.Common.{◌≡◌, ℕ, Some, length, map}
use Rattle.std.specs.Prelude.{slice_get}
use Rattle.std.specs.Arc.{arc_value}
use Rattle.crew_job.specs.crew_fronts.Fronts.{BaseFronts}
use Rattle.crew_job.specs.crew_plan.Plans.{AreFrontsIn}
use Rattle.crew_board.proofs.round.Round.close.Given as goal

-- one sweep for each base so far, in order
abbrev pub invariant-loop-base : goal.invariant-loop-base
invariant-loop-base l = (length l.sweeps.items ≡ l.base)
    × ((k : ℕ) (b : BaseFronts) → slice_get (map arc_value l.sweeps.items) k ≡ Some b → AreFrontsIn l.self.ground.plan k b)
