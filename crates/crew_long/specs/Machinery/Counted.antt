-- A history has no more periods than its list has duties.
use Rattle.std.specs.Prelude.{ℕ, ◌≤◌}
use Rattle.std.specs.Coded.{le_prop}
use Rattle.crew_history.specs.declared.history.History.{History}

abbrev pub IsCounted : History → ℕ → Type 0
IsCounted h n = h.len ≤ n

pub counted_prop : (h : History) (n : ℕ) → IsProp (IsCounted h n)
counted_prop h n = le_prop
