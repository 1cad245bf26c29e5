-- What the values of a pass's labels have, whatever network the pass goes over.
use Rattle.std.specs.Prelude.{◌≡◌, ◌≤ℤ◌, ◌⊎◌, ℕ, Bool, true, false, ℤ, pos}
use Rattle.crew_answers.specs.declared.value.LongValue.{LongValue}
use Rattle.crew_answers.proofs.Listed.{StartsLate}
use Rattle.crew_pass.specs.crew_long.Recents.{recent_periods}
use Rattle.crew_pass.specs.crew_long.RestEnds.{rest_end_at}
use Rattle.crew_pass.specs.crew_long.Machinery.RecentStages.{idle_recent}
use Rattle.crew_pairing.specs.declared.events.Departure.{Departure}

-- an instant at which a duty may report that the last window remembers
pub record IsReal (minute : ℤ) : Type 0 where
  pub least : pos 0 ≤ℤ minute
  pub most : minute ≤ℤ pos 2_000_000_000

-- the value of a list of so many duties: it counts them, and its periods start no earlier than
-- instant 0; with the past off it has none
pub record IsCounting (is_on : Bool) (v : LongValue) (n : ℕ) : Type 0 where
  pub counts : v.sums.duties ≡ pos n
  pub tied : is_on ≡ true → v.recent.duties ≡ n
  pub rest_off : is_on ≡ false → v.rest_end ≡ rest_end_at (pos 0)
  pub window_off : is_on ≡ false → v.recent ≡ idle_recent
  pub late : StartsLate (recent_periods v.recent)

-- after its last duty: the end of the last rest is the report of a duty
pub record IsValue (is_on : Bool) (v : LongValue) (n : ℕ) : Type 0 where
  pub counting : IsCounting is_on v n
  pub real : IsReal v.rest_end.minute

-- at a departure after it: that, or the departure's
pub record IsWaiting (is_on : Bool) (g : Departure) (v : LongValue) (n : ℕ) : Type 0 where
  pub counting : IsCounting is_on v n
  pub real : is_on ≡ true → (v.rest_end.minute ≡ g.report) ⊎ IsReal v.rest_end.minute
