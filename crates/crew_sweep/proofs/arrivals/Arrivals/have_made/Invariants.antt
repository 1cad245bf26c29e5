use Rattle.std.proofs.Common.{◌≤◌, ◌<◌, ℕ}
use Rattle.crew_sweep.specs.Machinery.Passing.{IsMade}
use Rattle.crew_sweep.proofs.arrivals.Arrivals.have_made.Given as goal

-- those so far are made
abbrev pub invariant-loop-place : goal.invariant-loop-place
invariant-loop-place l = (p : ℕ) → l.fn.window.from ≤ p → p < l.place → IsMade l.self.made.items p
