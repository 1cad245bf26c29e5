use Rattle.std.proofs.Common.{◌≡◌, ◌+◌, ◌<◌, ℕ, Some}
use Rattle.std.specs.Prelude.{slice_get}
use Rattle.crew_dirty.proofs.windows.holds_twins.Given as goal

-- so many stand at their twins
abbrev pub invariant-loop-offset : goal.invariant-loop-offset
invariant-loop-offset l = (k : ℕ) → k < l.offset → slice_get l.twins.arrivals (l.now.from + k) ≡ Some (Some (l.old.from + k))
