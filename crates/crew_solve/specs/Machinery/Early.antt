-- Departures that report before an instant.
use Rattle.std.specs.Prelude.{int_lt, ℤ, Bool, false, Option, Some, None}
use Rattle.crew_pairing.specs.declared.events.Departure.{Departure}

-- there is a departure, and it reports before an instant
abbrev pub is_early : ℤ → Option Departure → Bool
is_early at None = false
is_early at (Some g) = int_lt g.report at
