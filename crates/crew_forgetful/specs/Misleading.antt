-- Two labels of which values alone mislead: one has the lesser history, the other the lesser walk,
-- and boarding forgets histories.
use Rattle.std.specs.Prelude.{◌≡◌, Bool, true, false, ◌&&◌, List, [], ◌∷◌}
use Rattle.crew_resource.specs.Members.{Member}

-- false before true
abbrev pub at_most_bool : Bool → Bool → Bool
at_most_bool false b = true
at_most_bool true b = b

-- values are (sum, history), and walks are truth values too
abbrev pub below : Bool × Bool → Bool × Bool → Bool
below a b = at_most_bool a.0 b.0 && at_most_bool a.1 b.1

abbrev pub same_sum : Bool × Bool → Bool × Bool → Bool
same_sum a b = at_most_bool a.0 b.0 && at_most_bool b.0 a.0

-- boarding: the sum stays, the history goes
abbrev pub forgets : Bool × Bool → Bool × Bool
forgets v = (v.0, false)

abbrev pub lesser_history : (Bool × Bool) × Bool
lesser_history = ((false, false), true)

abbrev pub lesser_walk : (Bool × Bool) × Bool
lesser_walk = ((false, true), false)

abbrev pub both_labels : List ((Bool × Bool) × Bool)
both_labels = lesser_history ∷ lesser_walk ∷ []

abbrev pub kept_by_value : List ((Bool × Bool) × Bool)
kept_by_value = lesser_history ∷ []

-- what labels are once they have boarded, with this walk and that
abbrev pub Boarding : List ((Bool × Bool) × Bool) → Bool × Bool → Bool → Type 0
Boarding labels z y = (v : Bool × Bool) × Member labels (v, y) × (z ≡ forgets v)

-- the one value that both have then
abbrev pub boarded_with : Bool → List ((Bool × Bool) × Bool)
boarded_with walk = ((false, false), walk) ∷ []
