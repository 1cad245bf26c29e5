use Rattle.std.proofs.Common.{◌≡◌, slice_get, ℕ, ◌<◌}
use Rattle.crew_publish.proofs.follow.begins.Given as goal

abbrev pub invariant-loop-place : goal.invariant-loop-place
invariant-loop-place l = (k : ℕ) → k < l.place → slice_get l.earlier.entries k ≡ slice_get l.later.entries k
