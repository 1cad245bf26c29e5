use Rattle.std.proofs.Common.{◌<◌, ◌≤◌, ℕ}
use Rattle.crew_sweep.specs.Machinery.Grounds.{ArePools, Stay}
use Rattle.crew_sweep.specs.Machinery.Passing.{IsMade}
use Rattle.crew_sweep.proofs.arrivals.Arrivals.make_window.Given as goal

-- those of the window so far are made
abbrev pub invariant-loop-place : goal.invariant-loop-place
invariant-loop-place l = ArePools l.ground l.passed l.self × Stay l.fn.self l.self × ((place : ℕ) → l.fn.window.from ≤ place → place < l.place → IsMade l.self.made.items place)
