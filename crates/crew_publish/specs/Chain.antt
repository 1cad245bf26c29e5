-- How a version follows another, and where a list of versions ends.
use Rattle.std.specs.Prelude.{◌≡◌, ◌<◌, ◌⊎◌, List, [], ◌∷◌}
use mathlib.Core.List.{IsPrefix}
use Rattle.crew_version.specs.Versions.{Snapshot}

-- w may come after v: its number is greater, and its entries begin with those of v
pub record Follows (v : Snapshot) (w : Snapshot) : Type 0 where
  pub rises : v.number < w.number
  pub begins : IsPrefix v.entries w.entries

-- w is v, by number and entries
abbrev pub IsSame : Snapshot → Snapshot → Type 0
IsSame v w = (v.number ≡ w.number) × (v.entries ≡ w.entries)

-- w extends v: it is v, by number and entries, or it may come after v
abbrev pub Extends : Snapshot → Snapshot → Type 0
Extends v w = IsSame v w ⊎ Follows v w

-- the last of these, or v where there is none
abbrev pub last_or : Snapshot → List Snapshot → Snapshot
last_or v [] = v
last_or v (w ∷ ws) = last_or w ws

-- a list ends with v
abbrev pub Ends : List Snapshot → Snapshot → Type 0
Ends [] v = ⊥
Ends (w ∷ ws) v = last_or w ws ≡ v

-- v may come next: it follows the last one
abbrev pub IsNext : List Snapshot → Snapshot → Type 0
IsNext list v = (last : Snapshot) × Ends list last × Follows last v
