-- Pools of arrivals that stand side by side, and the labels of a room.
use Rattle.std.specs.Prelude.{◌≤◌, ◌<◌, ℕ, List, [], Option, get_or, map}
use Rattle.crew_label.specs.Pools.{AreCounted}
use Rattle.crew_label.specs.Tables.{leads_in}
use Rattle.crew_label.specs.Walks.{shown}
use Rattle.crew_label.specs.declared.label.Label.{Label}
use Rattle.crew_label.specs.declared.label.Link.{Link}
use Rattle.crew_labelling.specs.Candidates.{AreGathered}
use Rattle.crew_labelling.specs.Held.{trail_of}
use Rattle.crew_labelling.specs.Labellings.{labelling_of, table_of}
use Rattle.crew_labelling.specs.Terms.{Terms}
use Rattle.crew_resource.specs.Members.{Member}
use Rattle.crew_pass.specs.Machinery.Shelves.{pools_seen}

-- an entry of one of the arrivals from a place up to another, which isn't one of them
abbrev pub Within : {V : Type 0} → (Link → List ℕ) → List (List (Label V)) → ℕ → ℕ → V → List ℕ
    → Type 0
Within trail held from end v k = (place : ℕ) × (from ≤ place) × (place < end)
    × Member (map (shown trail) (get_or held place [])) (v, k)

-- the pool of all of them, of labels that stand there
pub record IsStretch {V : Type 0} (w : Terms V) (from end : ℕ) (labels : List (Label V)) : Type
    0 where
  pub gathered : AreGathered w (trail_of (table_of w (labelling_of w)))
      (Within (trail_of (table_of w (labelling_of w))) (labelling_of w).arrivals from end) labels
  pub stands : (l : Label V) → Member labels l → (place : ℕ) × (from ≤ place) × (place < end)
      × Member (get_or (labelling_of w).arrivals place []) l

-- labels that lead to departures that are seen, and count their walks
abbrev pub CountThere : {V : Type 0} → Terms V → List (Option (List (Label V))) → List (Label V)
    → Type 0
CountThere w departures labels =
    AreCounted w.count (λ link. leads_in w.leaves (pools_seen departures) link)
    (trail_of (table_of w (labelling_of w))) labels
