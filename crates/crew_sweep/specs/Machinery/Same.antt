-- Departures that have one pool.
use Rattle.std.specs.Prelude.{◌≡◌, ℕ, List, None, Some, slice_get}
use Rattle.crew_anchor.specs.declared.resource.AnchoredResource.{AnchoredResource}
use Rattle.crew_net.specs.Events.{IsWindow}
use Rattle.crew_net.specs.Nets.{Net}
use Rattle.crew_net.specs.Positions.{in_order}
use Rattle.crew_net.specs.declared.window.Window.{Window}
use Rattle.crew_pairing.specs.Events.{may_wait}
use Rattle.crew_pairing.specs.declared.events.Departure.{Departure}
use Rattle.crew_sweep.specs.Machinery.Numbered.{idle_at}

-- the departure waits on what a window holds, and doesn't leave from the base
pub record WaitsOn (net : Net) (base : List ℕ) (r : AnchoredResource) (g : Departure) (w : Window) :
    Type 0 where
  pub window : IsWindow (λ x. may_wait net.settings x g) net.arrivals w
  pub idle : idle_at r base (Some g) ≡ None

-- the departure at a place waits on what that at a position waits on, and neither leaves from the base
pub record HasSamePool (net : Net) (base : List ℕ) (r : AnchoredResource) (place position : ℕ) : Type 0
  where
    pub window : Window
    pub event : Departure
    pub at : slice_get net.departures place ≡ Some event
    pub waits : WaitsOn net base r event window
    pub before : Departure
    pub before_at : slice_get (in_order net) position ≡ Some before
    pub before_waits : WaitsOn net base r before window
