-- Marks at arrivals.
use Rattle.std.specs.Prelude.{◌≡◌, ◌≤◌, ◌<◌, ℕ, Bool, false, List, get_or}
use Rattle.crew_net.specs.declared.window.Window.{Window}
use Rattle.crew_resource.specs.Members.{Member}

-- none in the window
abbrev pub IsClear : List Bool → Window → Type 0
IsClear marks w = (k : ℕ) → w.from ≤ k → k < w.end → get_or marks k false ≡ false

-- the arrival of a rank without a flag is at the place
abbrev pub IsMarkedBy : List ℕ → List ℕ → List Bool → ℕ → Type 0
IsMarkedBy ranks places flags place = (rank : ℕ) × Member ranks rank
    × (get_or places rank 0 ≡ place) × (get_or flags rank false ≡ false)
