-- Walks whose duties have other ranks.
use Rattle.std.specs.Prelude.{ℕ, List, Option, Some, None, get_or, map}

-- a rank, or else another
abbrev pub or_else : ℕ → Option ℕ → ℕ
or_else other (Some rank) = rank
or_else other None = other

-- the rank of a duty's twin; its own where it has none
abbrev pub rank_under : List (Option ℕ) → ℕ → ℕ
rank_under twins rank = or_else rank (get_or twins rank None)

-- all walks, by the ranks of their duties' twins
abbrev pub walks_under : List (Option ℕ) → List (List ℕ) → List (List ℕ)
walks_under twins walks = map (map (rank_under twins)) walks
