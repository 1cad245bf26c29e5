-- Which of two walks stays.
use Rattle.std.specs.Prelude.{List, cond}
use Rattle.std.specs.Ordering.{is_lt}
use Rattle.crew_pairing.specs.Keys.{walk_cmp}
use Rattle.crew_pairing.specs.Legs.{Leg}

-- the lesser of two walks
abbrev pub lesser : List (List Leg) → List (List Leg) → List (List Leg)
lesser a b = cond (is_lt (walk_cmp b a)) b a
