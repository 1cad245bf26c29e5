-- Windows of arrivals that hold the same.
use Rattle.std.specs.Prelude.{◌≡◌, ◌↔◌, ◌<◌, ◌+◌, ◌-◌, ℕ, true, List, Option, Some, slice_get}
use Rattle.crew_net.specs.Nets.{Net}
use Rattle.crew_net.specs.declared.window.Window.{Window}
use Rattle.crew_pairing.specs.Events.{arrival_of, may_wait}
use Rattle.crew_pairing.specs.declared.events.Departure.{Departure}
use Rattle.crew_pairing.specs.declared.duty.Duty.{Duty}
use Rattle.crew_resource.specs.Members.{Member}

-- as many arrivals, each at its twin
pub record AreTwinWindows (arrivals : List (Option ℕ)) (now old : Window) : Type 0 where
  pub long : now.end - now.from ≡ old.end - old.from
  pub twins : (k : ℕ) → k < now.end - now.from
      → slice_get arrivals (now.from + k) ≡ Some (Some (old.from + k))

-- exactly the duties that were there may be waited on
abbrev pub WaitsAlike : Net → Net → Departure → Type 0
WaitsAlike old new g = (e : Duty) → may_wait new.settings (arrival_of e) g ≡ true
    → (Member old.duties e ↔ Member new.duties e)
