-- Duties in order of their reports, by natural numbers.
use Rattle.std.specs.Prelude.{ℕ, ◌+◌, unsigned_abs, pos, ◌+ℤ◌, List, [], ◌∷◌}
use Rattle.crew_pairing.specs.declared.duty.Duty.{Duty}

-- reports lie above the negative of this number
abbrev pub reach : List Duty → ℕ
reach [] = 0
reach (d ∷ ds) = unsigned_abs d.report + reach ds

abbrev pub rank_of : List Duty → Duty → ℕ
rank_of duties d = unsigned_abs (d.report +ℤ pos (reach duties))
