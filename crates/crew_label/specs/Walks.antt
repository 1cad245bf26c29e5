-- Walks that are read along links.
use Rattle.std.specs.Prelude.{◌≡◌, ℕ, Bool, true, List, [], Option, Some, None}
use Rattle.std.specs.Cmp.Lexicographic.{slice_cmp}
use Rattle.std.specs.Ordering.{is_le, nat_cmp}
use Rattle.crew_label.specs.declared.label.Label.{Label}
use Rattle.crew_label.specs.declared.label.Link.{Link}

-- the walk that ends with a link, or the empty one
abbrev pub walk_of : (Link → List ℕ) → Option Link → List ℕ
walk_of trail None = []
walk_of trail (Some link) = trail link

-- the link, if there is one, leads to a label
abbrev pub Leads : (Link → Bool) → Option Link → Type 0
Leads leads None = Unit {0}
Leads leads (Some link) = leads link ≡ true

-- a label's value and walk
abbrev pub shown : {V : Type 0} → (Link → List ℕ) → Label V → V × List ℕ
shown trail l = (l.value, walk_of trail l.before)

-- one walk by rank is at most another
abbrev pub ranks_at_most : List ℕ → List ℕ → Bool
ranks_at_most a b = is_le (slice_cmp nat_cmp a b)
