-- What a pass with seven sums shows.
use Rattle.std.specs.Prelude.{◌≡◌, ℕ, ℤ, List, Some, slice_get}
use Rattle.crew_anchor.specs.Sweeps.{shown_labels}
use Rattle.crew_flights.specs.Timetable.{Timetable}
use Rattle.crew_pairing.specs.Duties.{flights_of}
use Rattle.crew_pairing.specs.Pairings.{IsDuty}
use Rattle.crew_pairing.specs.declared.duty.Duty.{Duty}
use Rattle.crew_pairing.specs.declared.vector.PairingVector.{PairingVector}
use Rattle.crew_pass.specs.Passes.{BasePass, keyed_entries}
use Rattle.crew_rules.specs.declared.settings.Settings.{Settings}
use Rattle.crew_vector.specs.Fronts.{IsFrontAt}

-- each legal duty of a timetable has a rank, and the fronts, shown at the duty's release, are the
-- duty's front there
abbrev pub ShowsFronts : Settings → Timetable → List ℕ → ℤ → BasePass PairingVector → Type 0
ShowsFronts s t base price p = (d : Duty) → IsDuty s (flights_of t) d → (rank : ℕ)
    × (slice_get p.net.duties rank ≡ Some d)
    × IsFrontAt s t base price d (shown_labels s.trip_rig d.release (keyed_entries p rank))
