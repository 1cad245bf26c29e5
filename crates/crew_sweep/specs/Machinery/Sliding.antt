-- Where a slide stands. Two stacks that keep the sum of a window which slides are described in
-- Tangwongsan et al. 2015, "General incremental sliding-window aggregation".
use Rattle.std.specs.Prelude.{◌≤◌, ◌<◌, ◌+◌, ◌⊎◌, ℕ, List, length}
use Rattle.crew_pairing.specs.declared.vector.PairingVector.{PairingVector}
use Rattle.crew_pool.specs.declared.label_walk.LabelWalk.{LabelWalk}
use Rattle.crew_sweep.specs.Machinery.Parts.{AreSuffixes, IsPart}
use Rattle.crew_sweep.specs.declared.slide.Slide.{Slide}

-- the places whose pools the stacks have merged
abbrev pub Stacks : Slide → ℕ → Type 0
Stacks s place = ((s.middle < place + length s.before.items) × (place < s.middle))
    ⊎ ((s.middle ≤ place) × (place < s.end))

-- and those of the window
abbrev pub Covers : Slide → ℕ → Type 0
Covers s place = Stacks s place ⊎ ((s.window.from ≤ place) × (place < s.window.end))

-- the stacks over a row
pub record IsStacked (walks : List (List ℕ)) (held : List (List (PairingVector × LabelWalk)))
    (s : Slide) : Type 0 where
  pub ordered : s.middle ≤ s.end
  pub before : AreSuffixes walks held s.middle s.before.items
  pub after : IsPart walks held s.middle s.end s.after

-- a slide over a row
pub record IsSliding (walks : List (List ℕ)) (held : List (List (PairingVector × LabelWalk)))
    (s : Slide) : Type 0 where
  pub stacked : IsStacked walks held s
  pub shown : IsPart walks held s.window.from s.window.end s.pool
