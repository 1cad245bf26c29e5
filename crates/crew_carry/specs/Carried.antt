-- Walks that are carried from one network to another.
use Rattle.std.specs.Prelude.{◌≡◌, ◌<◌, ℕ, List, Option, Some, None, get_or, length, map, slice_get}
use Rattle.crew_pool.specs.Arena.{walk_at}
use Rattle.crew_resource.specs.Members.{Member}

-- the rank in the new network of the duty of a rank in the old one, if its key is there
abbrev pub twin_of : List (Option ℕ) → ℕ → Option ℕ
twin_of ranks rank = get_or ranks rank None

-- duty by duty, the second walk has the twins of the first one's
abbrev pub AreTwinWalks : List (Option ℕ) → List ℕ → List ℕ → Type 0
AreTwinWalks ranks walk twin = map (twin_of ranks) walk ≡ map (λ k. Some k) twin

-- a duty of the walk has no twin
abbrev pub LacksTwin : List (Option ℕ) → List ℕ → Type 0
LacksTwin ranks walk = (rank : ℕ) × Member walk rank × (twin_of ranks rank ≡ None)

-- where walks of one list stand in another, so far as they were carried there
pub record IsCarried (ranks : List (Option ℕ)) (from to : List (List ℕ)) (places : List (Option ℕ))
    : Type 0 where
  pub long : length places ≡ length from
  pub there : (p q : ℕ) → slice_get places p ≡ Some (Some q) → q < length to
  pub shows : (p q : ℕ) → slice_get places p ≡ Some (Some q)
      → AreTwinWalks ranks (walk_at from p) (walk_at to q)
