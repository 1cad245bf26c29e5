use Rattle.std.proofs.Common.{◌≡◌, slice_get, ℕ, ◌<◌}
use Rattle.crew_service.specs.Plans.{entries_of}
use Rattle.crew_serve.proofs.threaded.has_entries.Given as goal

abbrev pub invariant-loop-place : goal.invariant-loop-place
invariant-loop-place l = (k : ℕ) → k < l.place → slice_get l.version.entries k ≡ slice_get (entries_of l.receipts) k
