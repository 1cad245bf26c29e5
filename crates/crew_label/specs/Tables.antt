-- The pools of departures, in order, and the walks that their labels' links make.
use Rattle.std.specs.Prelude.{ℕ, Bool, ◌&&◌, List, [], ◌∷◌, ◌++◌, Option, Some, None, get_or, length, map, nat_lt}
use Rattle.crew_resource.specs.Members.{Each}
use Rattle.crew_label.specs.Walks.{Leads}
use Rattle.crew_label.specs.declared.label.Label.{Label}
use Rattle.crew_label.specs.declared.label.Link.{Link}

-- for each duty by number its rank, and by rank the departure that it leaves from
pub record Leaving : Type 0 where
  pub ranks : List ℕ
  pub positions : List ℕ

-- which departures duties leave from, and for each departure so far its labels
pub record Tabled (V : Type 0) : Type 0 where
  pub leaves : Leaving
  pub pools : List (List (Label V))

-- the rank of a duty, by its number
abbrev pub rank_of : Leaving → ℕ → ℕ
rank_of leaves duty = get_or leaves.ranks duty 0

-- the departure of a duty, by its number
abbrev pub departure_of : Leaving → ℕ → ℕ
departure_of leaves duty = get_or leaves.positions (rank_of leaves duty) 0

-- the number is known, and its rank is
abbrev pub is_known : Leaving → ℕ → Bool
is_known leaves duty =
    nat_lt duty (length leaves.ranks)
    && nat_lt (rank_of leaves duty) (length leaves.positions)

-- the duty is known, and its departure has a label at the place
abbrev pub leads_in : {V : Type 0} → Leaving → List (List (Label V)) → Link → Bool
leads_in leaves pools link =
    is_known leaves link.duty
    && nat_lt link.place (length (get_or pools (departure_of leaves link.duty) []))

-- each label leads to one of an earlier departure, or to none
abbrev pub AreLinked : {V : Type 0} → Leaving → List (List (Label V)) → List (List (Label V))
    → Type 0
AreLinked leaves before [] = Unit {0}
AreLinked leaves before (p ∷ ps) = Each (λ l. Leads (leads_in leaves before) l.before) p
    × AreLinked leaves (before ++ p ∷ []) ps

-- the walk of a label by rank, by the walks of earlier departures' labels: a duty more than that of
-- the label which it leads to
abbrev pub walk_in : Leaving → List (List (List ℕ)) → Option Link → List ℕ
walk_in leaves walks None = []
walk_in leaves walks (Some link) =
    get_or (get_or walks (departure_of leaves link.duty) []) link.place []
    ++ rank_of leaves link.duty ∷ []

-- departure by departure
abbrev pub walks_from : {V : Type 0} → Leaving → List (List (List ℕ)) → List (List (Label V))
    → List (List (List ℕ))
walks_from leaves walks [] = walks
walks_from leaves walks (p ∷ ps) =
    walks_from leaves (walks ++ map (λ l. walk_in leaves walks l.before) p ∷ []) ps

-- the walk that a link ends
abbrev pub trail_in : {V : Type 0} → Leaving → List (List (Label V)) → Link → List ℕ
trail_in leaves pools link = walk_in leaves (walks_from leaves [] pools) (Some link)
