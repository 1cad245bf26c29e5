-- The events of a timetable's duties: where and when they leave, and where and when their crews are
-- released. A network of duties along time is described in Barnhart et al. 2003, "Airline crew
-- scheduling".
use Rattle.std.specs.Prelude.{◌≡◌, ◌↔◌, ◌<◌, ◌≤◌, ℕ, Bool, true, ◌&&◌, List, Some, length, slice_get}
use Rattle.std.specs.declared.cmp.Ordering.{Ordering}
use Rattle.std.specs.declared.cmp.Ordering.TheVariants.{Less}
use Rattle.std.specs.Ordering.{eq_by_cmp, int_cmp, int_eq, then_cmp}
use Rattle.crew_flights.specs.Codes.{code_cmp}
use Rattle.crew_net.specs.declared.window.Window.{Window}
use Rattle.crew_pairing.specs.declared.duty.Duty.{Duty}
use Rattle.crew_pairing.specs.declared.events.Arrival.{Arrival}
use Rattle.crew_pairing.specs.declared.events.Departure.{Departure}
use Rattle.crew_resource.specs.Members.{Member}

-- the duty leaves at that event
abbrev pub leaves_at : Departure → Duty → Bool
leaves_at g d = eq_by_cmp code_cmp g.airport d.from && int_eq g.report d.report

-- the duty arrives at that event
abbrev pub arrives_at : Arrival → Duty → Bool
arrives_at x d = eq_by_cmp code_cmp x.airport d.to && int_eq x.release d.release

-- events by airport, then time
abbrev pub departure_cmp : Departure → Departure → Ordering
departure_cmp = then_cmp (λ a b. code_cmp a.airport b.airport) (λ a b. int_cmp a.report b.report)

abbrev pub arrival_cmp : Arrival → Arrival → Ordering
arrival_cmp = then_cmp (λ a b. code_cmp a.airport b.airport) (λ a b. int_cmp a.release b.release)

-- exactly the events of some duties, each once, in order
pub record AreEvents {E : Type 0} (event_of : Duty → E) (cmp : E → E → Ordering)
    (duties : List Duty) (events : List E) : Type 0 where
  pub every : (d : Duty) → Member duties d → Member events (event_of d)
  pub some : (e : E) → Member events e → (d : Duty) × Member duties d × (event_of d ≡ e)
  pub rising : (i j : ℕ) (a b : E) → i < j → slice_get events i ≡ Some a
      → slice_get events j ≡ Some b → cmp a b ≡ Less

-- exactly the events that pass a test stand in the window
pub record IsWindow {E : Type 0} (passes : E → Bool) (events : List E) (w : Window) :
    Type 0 where
  pub ordered : w.from ≤ w.end
  pub within : w.end ≤ length events
  pub exact : (k : ℕ) (e : E) → slice_get events k ≡ Some e
      → (passes e ≡ true) ↔ ((w.from ≤ k) × (k < w.end))
