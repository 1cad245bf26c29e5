use Rattle.std.proofs.Common.{◌≡◌, ◌≤◌, ◌<◌, ℕ, Some}
use Rattle.std.specs.Prelude.{slice_get}
use Rattle.crew_numbers.proofs.taking.end_of.Given as goal

-- the numbers so far are below
abbrev pub invariant-loop-number : goal.invariant-loop-number
invariant-loop-number l = (l.least ≤ l.end) × (l.end ≤ 400_000)
    × ((j k : ℕ) → j < l.number-index → slice_get l.numbers j ≡ Some k → k < l.end)
