-- Partial pairings at a node, which is a base and a legal duty, and the node's front: its
-- undominated vectors, each with the least clean walk that has it. Labels, and the dominance among
-- them, are those of Irnich and Desaulniers 2005, "Shortest path problems with resource
-- constraints". `price` is the base's price, by which the vectors of its partials are less.
use Rattle.std.specs.Prelude.{◌≡◌, ℕ, ℤ, List, [], ◌∷◌, ◌++◌, map}
use Rattle.std.specs.declared.cmp.Ordering.TheVariants.{Less}
use Rattle.std.specs.Ordering.{int_cmp, ordering_then}
use Rattle.std.specs.declared.cmp.Ordering.{Ordering}
use Rattle.crew_pairing.specs.Duties.{flights_of}
use Rattle.crew_pairing.specs.Keys.{walk_at_most}
use Rattle.crew_resource.specs.Members.{Each}
use Rattle.crew_pairing.specs.Pairings.{IsPartial, last_duty}
use Rattle.crew_pairing.specs.declared.duty.Duty.{Duty}
use Rattle.crew_pairing.specs.Legs.{Leg}
use Rattle.crew_flights.specs.Timetable.{Timetable}
use Rattle.crew_resource.specs.Labels.{Beats, IsFront, Undominated}
use Rattle.crew_rules.specs.declared.settings.Settings.{Settings}
use Rattle.crew_vector.specs.Dominance.{is_at_most}
use Rattle.crew_pairing.specs.Vectors.{vector_of}
use Rattle.crew_pairing.specs.declared.vector.PairingVector.{PairingVector}

-- a walk: the keys of the duties in order
abbrev pub walk_of : List Duty → List (List Leg)
walk_of duties = map (λ d. d.key) duties

-- one vector beats another: it is at most the other in each part, and isn't the other
abbrev pub VectorBeats : PairingVector → PairingVector → Type 0
VectorBeats = Beats is_at_most

-- vectors are listed by their parts in order
abbrev pub vector_cmp : PairingVector → PairingVector → Ordering
vector_cmp a b =
    ordering_then (int_cmp a.duty_pay b.duty_pay)
    (ordering_then (int_cmp a.trip_rig b.trip_rig)
    (ordering_then (int_cmp a.guarantee b.guarantee)
    (ordering_then (int_cmp a.fdp b.fdp)
    (ordering_then (int_cmp a.fly b.fly)
    (ordering_then (int_cmp a.duties b.duties) (int_cmp a.away b.away))))))

-- each entry stands before all later ones by its vector
abbrev pub RiseByVector : List (PairingVector × List (List Leg)) → Type 0
RiseByVector [] = Unit {0}
RiseByVector (entry ∷ entries) = Each (λ later. vector_cmp entry.0 later.0 ≡ Less) entries
    × RiseByVector entries

-- a partial of the base whose last duty is d, by its vector and its walk
pub record At (s : Settings) (t : Timetable) (base : List ℕ) (price : ℤ) (d : Duty)
    (v : PairingVector) (w : List (List Leg)) : Type 0 where
  pub first : Duty
  pub others : List Duty
  pub partial : IsPartial s (flights_of t) base first others
  pub ends : last_duty first others ≡ d
  pub vector : v ≡ vector_of s price (first ∷ others)
  pub walk : w ≡ walk_of (first ∷ others)

-- a partial of the node has the vector, and no partial of the node has one that beats it
abbrev pub IsUndominated : Settings → Timetable → List ℕ → ℤ → Duty → PairingVector → Type 0
IsUndominated s t base price d = Undominated is_at_most (At s t base price d)

-- each beginning, the whole list included, has a vector that is undominated at its own node
abbrev pub StaysUndominated : Settings → Timetable → List ℕ → ℤ → Duty → List Duty → Type 0
StaysUndominated s t base price first others =
    (taken left : List Duty) → taken ++ left ≡ others
    → IsUndominated s t base price (last_duty first taken) (vector_of s price (first ∷ taken))

-- a clean partial
pub record Clean (s : Settings) (t : Timetable) (base : List ℕ) (price : ℤ) (d : Duty)
    (v : PairingVector) (w : List (List Leg)) : Type 0 where
  pub at : At s t base price d v w
  pub stays : StaysUndominated s t base price at.first at.others

-- exactly the undominated vectors of the node, each with the least clean walk that has it
abbrev pub IsFrontAt : Settings → Timetable → List ℕ → ℤ → Duty
    → List (PairingVector × List (List Leg)) → Type 0
IsFrontAt s t base price d = IsFront is_at_most walk_at_most (At s t base price d)
    (Clean s t base price d)
