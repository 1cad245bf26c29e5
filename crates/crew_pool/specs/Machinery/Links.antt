-- Links whose duties have other ranks.
use Rattle.std.specs.Prelude.{ℕ, List, [], Option, Some, None, get_or}
use Rattle.crew_pool.specs.Renumbered.{rank_under}
use Rattle.crew_pool.specs.declared.links.Link.{Link}

-- what has become of a rank: where nothing tells, it has stayed
abbrev pub rank_now : List ℕ → ℕ → ℕ
rank_now ranks rank = get_or ranks rank rank

abbrev pub link_now : List ℕ → Link → Link
link_now ranks link = record { before = link.before; duty = rank_now ranks link.duty }

-- a link by the rank of its duty's twin
abbrev pub link_under : List (Option ℕ) → Link → Link
link_under twins link = record { before = link.before; duty = rank_under twins link.duty }

-- the links of a beginning, if there is one
abbrev pub begun : Option (List Link) → List Link
begun (Some links) = links
begun None = []
