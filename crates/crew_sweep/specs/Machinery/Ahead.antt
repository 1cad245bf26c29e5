-- What stands in the windows of departures that a pass has yet to come to.
use Rattle.std.specs.Prelude.{◌≡◌, ℕ, Bool, IfSome, List, Option, Some, slice_get}
use Rattle.crew_net.specs.Events.{IsWindow}
use Rattle.crew_net.specs.Nets.{Net}
use Rattle.crew_pairing.specs.Events.{may_wait}
use Rattle.crew_pairing.specs.declared.events.Departure.{Departure}
use Rattle.crew_pairing.specs.declared.vector.PairingVector.{PairingVector}
use Rattle.crew_pool.specs.declared.label_walk.LabelWalk.{LabelWalk}
use Rattle.crew_resource.specs.Members.{Member}
use Rattle.crew_sweep.specs.Machinery.Parts.{IsPart}
use Rattle.crew_sweep.specs.Machinery.Passing.{AreMade}
use Rattle.crew_sweep.specs.Machinery.Slides.{AreUnderWay}
use Rattle.crew_sweep.specs.declared.lanes.Slid.{Slid}
use Rattle.crew_sweep.specs.declared.windows.Waiting.{Waiting}

module _ (net : Net) (walks : List (List ℕ)) (made : List Bool)
    (held : List (List (PairingVector × LabelWalk))) where
  -- of a departure: its window, of which all is made, and the pool of that, if it is merged
  pub record IsAhead (w : Waiting) : Type 0 where
    pub window : (g : Departure) → slice_get net.departures w.place ≡ Some g
        → IsWindow (λ x. may_wait net.settings x g) net.arrivals w.window
    pub are_made : AreMade made w.window
    pub part : IfSome w.pool (IsPart walks held w.window.from w.window.end)

  -- of some departures in a row
  abbrev pub AreAhead : List (Option Waiting) → Type 0
  AreAhead ws = (w : Waiting) → Member ws (Some w) → IsAhead w

  -- slides that have gone on to the windows of these
  pub record IsSlid (s : Slid) : Type 0 where
    pub under_way : AreUnderWay net walks made held s.slides
    pub ahead : AreAhead s.ahead.items
