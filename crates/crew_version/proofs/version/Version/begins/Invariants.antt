use Rattle.std.proofs.Common.{◌≡◌, slice_get, ℕ, ◌<◌}
use Rattle.crew_version.proofs.version.Version.begins.Given as goal

abbrev pub invariant-loop-place : goal.invariant-loop-place
invariant-loop-place l = (k : ℕ) → k < l.place → slice_get l.self.entries k ≡ slice_get l.entries k
