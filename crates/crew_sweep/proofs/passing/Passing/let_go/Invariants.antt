use Rattle.std.proofs.Common.{◌≡◌}
use Rattle.crew_sweep.specs.Machinery.Grounds.{Stands}
use Rattle.crew_sweep.proofs.passing.Passing.let_go.Given as goal

abbrev pub invariant-loop-place : goal.invariant-loop-place
invariant-loop-place l = Stands l.ground l.self × (l.self.passed ≡ l.fn.self.passed)
