use Rattle.std.proofs.Common.{◌≡◌, ◌<◌, ℕ, Some, slice_get}
use Rattle.crew_solve.proofs.alike.have_twins.Given as goal

abbrev pub invariant-loop-place : goal.invariant-loop-place
invariant-loop-place l = (k : ℕ) → k < l.place → (twin : ℕ) × (slice_get l.twins.arrivals k ≡ Some (Some twin))
