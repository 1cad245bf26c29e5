use Rattle.std.proofs.Common.{◌≡◌, ◌<◌, ◌≤◌, false, ℕ}
use Rattle.crew_sweep.specs.Machinery.Grounds.{Stands}
use Rattle.crew_sweep.specs.Machinery.Mending.{is_unchanged}
use Rattle.crew_sweep.specs.Machinery.Passing.{IsMade}
use Rattle.crew_sweep.proofs.passing.Passing.make_changed.Given as goal

-- what has changed of the window so far is made
abbrev pub invariant-loop-place : goal.invariant-loop-place
invariant-loop-place l = Stands l.ground l.self × (l.self.passed ≡ l.fn.self.passed) × ((place : ℕ) → l.fn.window.from ≤ place → place < l.place → is_unchanged l.twins l.changed place ≡ false → IsMade l.self.arrivals.made.items place)
