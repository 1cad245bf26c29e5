-- Numbers by place: those in a window, and those that are raised at some places.
use Rattle.std.specs.Prelude.{◌≡◌, ◌≤◌, ◌<◌, ℕ, List, get_or}
use Rattle.crew_net.specs.declared.window.Window.{Window}
use Rattle.crew_resource.specs.Members.{Member}

-- the number is that to which the places of some ranks are raised, and this is one of them
abbrev pub IsRaised : List ℕ → List ℕ → ℕ → ℕ → ℕ → Type 0
IsRaised ranks places layer place number = (number ≡ layer) × (rank : ℕ) × Member ranks rank
    × (get_or places rank 0 ≡ place)

-- the number stands in the window
abbrev pub StandsIn : List ℕ → Window → ℕ → Type 0
StandsIn numbers w number = (k : ℕ) × (w.from ≤ k) × (k < w.end) × (get_or numbers k 0 ≡ number)
