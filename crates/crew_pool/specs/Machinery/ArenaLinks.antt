-- The walks that links make: each link a duty more than the walk at an earlier place.
use Rattle.std.specs.Prelude.{ℕ, ◌+◌, ◌≤◌, List, [], ◌∷◌, ◌++◌}
use Rattle.crew_pool.specs.Arena.{walk_at}
use Rattle.crew_pool.specs.declared.links.Link.{Link}

-- the walks so far, and those of the links in turn
abbrev pub walks_from : List (List ℕ) → List Link → List (List ℕ)
walks_from walks [] = walks
walks_from walks (l ∷ ls) = walks_from (walks ++ (walk_at walks l.before ++ l.duty ∷ []) ∷ []) ls

-- the walk of no duty, and those of the links in turn
abbrev pub all_walks : List Link → List (List ℕ)
all_walks links = walks_from ([] ∷ []) links

-- after i links, each link's walk goes on from an earlier place
abbrev pub AreLinked : ℕ → List Link → Type 0
AreLinked i [] = Unit {0}
AreLinked i (l ∷ ls) = (l.before ≤ i) × AreLinked (i + 1) ls
