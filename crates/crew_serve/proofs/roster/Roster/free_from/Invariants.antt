use Rattle.std.proofs.Common.{◌≡◌, ℕ, ◌<◌, ◌≤◌, None, Some}
use Rattle.std.specs.Prelude.{slice_get}
use Rattle.crew_serve.proofs.roster.Roster.free_from.Given as goal

abbrev pub invariant-loop-desk : goal.invariant-loop-desk
invariant-loop-desk l = (k : ℕ) → l.first ≤ k → k < l.desk → ¬ (slice_get l.self k ≡ Some None)
