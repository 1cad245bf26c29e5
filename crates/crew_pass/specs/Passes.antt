-- What passes over the departures of a base show.
use Rattle.std.specs.Prelude.{◌≡◌, ℕ, ℤ, List, Option, Some, slice_get}
use Rattle.crew_answers.specs.Fronts.{IsFrontAt}
use Rattle.crew_answers.specs.Shown.{shown_entries}
use Rattle.crew_answers.specs.declared.value.LongValue.{LongValue}
use Rattle.crew_flights.specs.Timetable.{Timetable}
use Rattle.crew_pairing.specs.Duties.{flights_of}
use Rattle.crew_pairing.specs.Pairings.{IsDuty}
use Rattle.crew_pairing.specs.declared.duty.Duty.{Duty}
use Rattle.crew_label.specs.declared.label.Label.{Label}
use Rattle.crew_rules.specs.declared.settings.Settings.{Settings}
-- what a resource counts, and what a pass of its shows
pub use Rattle.crew_labelling.specs.Passes.{AreTold, BasePass, IsCoveredBy, entries, keyed_entries}
pub use Rattle.crew_labelling.specs.Terms.{CountsDuties}

-- each legal duty of a timetable has a rank, and the fronts show the duty's front there
abbrev pub ShowsFronts : Settings → Timetable → List ℕ → ℤ → BasePass LongValue → Type 0
ShowsFronts s t base price p = (d : Duty) → IsDuty s (flights_of t) d → (rank : ℕ)
    × (slice_get p.net.duties rank ≡ Some d)
    × IsFrontAt s t base price d (shown_entries s d (keyed_entries p rank))

-- a pass that has ended: by which resource and from which base, with which numbers of duties by rank, and
-- what it shows; and by place the pools of those arrivals that it made, and those that rests after
-- them go by
pub record Passed (R V : Type 0) : Type 0 where
  pub resource : R
  pub base : List ℕ
  pub numbers : List ℕ
  pub pass : BasePass V
  pub arrivals : List (Option (List (Label V)))
  pub rested : List (Option (List (Label V)))
