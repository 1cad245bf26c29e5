-- Walks of two tables side by side, in which duties have other ranks: by rank, the twins tell which rank
-- of the other table is the same duty.
use Rattle.std.specs.Prelude.{◌≡◌, ℕ, List, Option, Some, map, slice_get}

-- the duties of one walk have as twins those of the other, one by one
abbrev pub AreTwinWalks : List ℕ → List ℕ → List ℕ → Type 0
AreTwinWalks twins walk other = map (slice_get twins) walk ≡ map Some other

-- entries with the same values and twin walks, one by one
abbrev pub AreTwinEntries : {V : Type 0} → List ℕ → List (V × List ℕ) → List (V × List ℕ) → Type 0
AreTwinEntries {V} twins entries others =
    map {B = V × List (Option ℕ)} (λ e. (e.0, map (slice_get twins) e.1)) entries
    ≡ map (λ e. (e.0, map Some e.1)) others
