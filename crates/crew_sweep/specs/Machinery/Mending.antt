-- Pools that are mended, where little has changed of what is waited on.
use Rattle.std.specs.Prelude.{◌≡◌, ◌≤◌, ◌<◌, ◌&&◌, ℕ, Bool, true, false, not, List, [], ◌∷◌, ◌++◌, ◌⊎◌, None, get_or, length, map, slice_get}
use Rattle.std.specs.Option.{is_some}
use Rattle.crew_anchor.specs.declared.resource.AnchoredResource.{AnchoredResource}
use Rattle.crew_carry.specs.Twins.{Twins}
use Rattle.crew_net.specs.Nets.{Net}
use Rattle.crew_net.specs.Positions.{in_order}
use Rattle.crew_net.specs.declared.window.Window.{Window}
use Rattle.crew_pairing.specs.Keys.{walk_at_most}
use Rattle.crew_pairing.specs.declared.vector.PairingVector.{PairingVector}
use Rattle.crew_pool.specs.Arena.{walk_at}
use Rattle.crew_pool.specs.Counted.{AreCounted}
use Rattle.crew_pool.specs.LabelWalks.{IsPoolOf, ranks_at_most, shown}
use Rattle.crew_pool.specs.declared.label_walk.LabelWalk.{LabelWalk}
use Rattle.crew_resource.specs.Events.{FromFronts, Views}
use Rattle.crew_resource.specs.Labels.{IsLocal}
use Rattle.crew_resource.specs.Members.{Member}
use Rattle.crew_sweep.specs.Machinery.Passing.{AreLabels, IsMade, passed_network}
use Rattle.crew_sweep.specs.Machinery.Renewing.{IsPositionPool}
use Rattle.crew_sweep.specs.Sweeps.{BaseSweep, keyed}
use Rattle.crew_vector.specs.Dominance.{is_at_most}

-- the arrival at a place has the duties that it had, from pools that have the labels that they had
abbrev pub is_unchanged : Twins → List Bool → ℕ → Bool
is_unchanged t changed place = not (get_or changed place true) && is_some (get_or t.arrivals place None)

-- the last duty of a walk arrives where nothing has changed, or it has none; by the places at which
-- duties arrive
abbrev pub ends_unchanged : Twins → List Bool → List ℕ → List ℕ → Bool
ends_unchanged t changed places [] = true
ends_unchanged t changed places (rank ∷ []) = is_unchanged t changed (get_or places rank 0)
ends_unchanged t changed places (rank ∷ next ∷ ranks) = ends_unchanged t changed places (next ∷ ranks)

-- what stands where something has changed, from one place of a row up to another
abbrev pub Changed : Twins → List Bool → List (List ℕ) → List (List (PairingVector × LabelWalk)) → ℕ
    → ℕ → PairingVector → List ℕ → Type 0
Changed t changed walks held from end v w = (place : ℕ) × (from ≤ place) × (place < end)
    × (is_unchanged t changed place ≡ false) × Member (map (shown walks) (get_or held place [])) (v, w)

-- the pool of that
pub record IsChangedPart (t : Twins) (changed : List Bool) (walks : List (List ℕ))
    (held : List (List (PairingVector × LabelWalk))) (from end : ℕ)
    (labels : List (PairingVector × LabelWalk)) : Type 0 where
  pub local : IsLocal is_at_most ranks_at_most (Changed t changed walks held from end)
      (map (shown walks) labels)
  pub counts : AreCounted (λ (v : PairingVector). v.duties) walks false labels

-- the pool of what comes into a window where something has changed, as labels that wait on
pub record IsFresh (t : Twins) (changed : List Bool) (walks : List (List ℕ)) (made : List Bool)
    (held : List (List (PairingVector × LabelWalk))) (w : Window)
    (fresh : List (PairingVector × LabelWalk)) : Type 0 where
  pub local : IsLocal is_at_most ranks_at_most (Changed t changed walks held w.from w.end)
      (map (shown walks) fresh)
  pub counts : AreCounted (λ (v : PairingVector). v.duties) walks true fresh
  pub all_made : (place : ℕ) → w.from ≤ place → place < w.end → is_unchanged t changed place ≡ false
      → IsMade made place

-- the pool that the departure at a place had
pub record IsOldPool (old : BaseSweep) (net : Net) (walks : List (List ℕ)) (place : ℕ)
    (pool : List (PairingVector × LabelWalk)) : Type 0 where
  pub position : ℕ
  pub at : slice_get (in_order old.net) position ≡ slice_get net.departures place
  pub has : IsPositionPool old net walks position pool

-- the pool by which a pass may go on
pub record IsNextPool (net : Net) (base : List ℕ) (r : AnchoredResource) (walks : List (List ℕ))
    (pools : List (List (PairingVector × LabelWalk))) (pool : List (PairingVector × LabelWalk)) :
    Type 0 where
  pub local : IsLocal is_at_most walk_at_most (FromFronts (passed_network net base r)
      (Views (passed_network net base r) (map (keyed net walks) pools)) (length pools))
      (keyed net walks pool)
  pub counts : AreCounted (λ (v : PairingVector). v.duties) walks true pool
  pub labels : AreLabels r (length net.duties) walks pool

-- what a pool and an older one leave together
pub record IsMended (walks : List (List ℕ)) (fresh old mended : List (PairingVector × LabelWalk)) :
    Type 0 where
  pub local : IsPoolOf is_at_most (map (shown walks) fresh ++ map (shown walks) old)
      (map (shown walks) mended)
  pub from : (l : PairingVector × LabelWalk) → Member mended l → Member fresh l ⊎ Member old l
  pub counts : AreCounted (λ (v : PairingVector). v.duties) walks true mended

-- each label's walk is one of those added last, or ends where nothing has changed
abbrev pub AreSound : Twins → List Bool → List ℕ → List (List ℕ) → ℕ
    → List (PairingVector × LabelWalk) → Type 0
AreSound t changed places walks added labels = (l : PairingVector × LabelWalk) → Member labels l
    → (added ≤ l.1.walk) ⊎ (ends_unchanged t changed places (walk_at walks l.1.walk) ≡ true)
