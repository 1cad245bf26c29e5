-- Partial pairings of up to 240 hours at a node, which is a base and a legal duty, and the node's
-- front: its undominated vectors, each with the least clean walk that has it. Labels, and the
-- dominance among them, are those of Irnich and Desaulniers 2005, "Shortest path problems with
-- resource constraints". `price` is the base's price, by which the vectors of its partials are less.
use Rattle.std.specs.Prelude.{◌≡◌, ℕ, ℤ, List, [], ◌∷◌, ◌++◌}
use Rattle.std.specs.Cmp.Lexicographic.{slice_cmp}
use Rattle.std.specs.Ordering.{int_cmp, ordering_then}
use Rattle.std.specs.declared.cmp.Ordering.{Ordering}
use Rattle.std.specs.declared.cmp.Ordering.TheVariants.{Less}
use Rattle.crew_flights.specs.Timetable.{Timetable}
use Rattle.crew_rules.specs.declared.settings.Settings.{Settings}
use Rattle.crew_resource.specs.Labels.{Beats, IsFront, Undominated}
use Rattle.crew_resource.specs.Members.{Each}
use Rattle.crew_pairing.specs.Duties.{flights_of}
use Rattle.crew_pairing.specs.Keys.{walk_at_most}
use Rattle.crew_pairing.specs.Legs.{Leg}
use Rattle.crew_pairing.specs.Pairings.{last_duty}
use Rattle.crew_pairing.specs.declared.duty.Duty.{Duty}
use Rattle.crew_vector.specs.Fronts as Sums
use Rattle.crew_vector.specs.Fronts.{walk_of}
use Rattle.crew_history.specs.LongPairings.{IsLongPartial}
use Rattle.crew_answers.specs.Dominance.{is_at_most}
use Rattle.crew_answers.specs.LongVectors.{LongVector, long_vector_of}

-- one vector beats another: it is at most the other in each part, and isn't the other
abbrev pub VectorBeats : LongVector → LongVector → Type 0
VectorBeats = Beats is_at_most

-- flight duty periods by start, then by end
abbrev pub period_cmp : ℤ × ℤ → ℤ × ℤ → Ordering
period_cmp p q = ordering_then (int_cmp p.0 q.0) (int_cmp p.1 q.1)

-- vectors are listed by their sums, then by the minutes since the last long rest, then by their
-- histories, period by period, a proper beginning first
abbrev pub vector_cmp : LongVector → LongVector → Ordering
vector_cmp a b =
    ordering_then (Sums.vector_cmp a.sums b.sums)
    (ordering_then (int_cmp a.since_rest b.since_rest) (slice_cmp period_cmp a.history b.history))

-- each entry stands before all later ones by its vector
abbrev pub RiseByVector : List (LongVector × List (List Leg)) → Type 0
RiseByVector [] = Unit {0}
RiseByVector (entry ∷ entries) = Each (λ later. vector_cmp entry.0 later.0 ≡ Less) entries
    × RiseByVector entries

-- a partial of the base whose last duty is d, by its vector and its walk
pub record At (s : Settings) (t : Timetable) (base : List ℕ) (price : ℤ) (d : Duty)
    (v : LongVector) (w : List (List Leg)) : Type 0 where
  pub first : Duty
  pub others : List Duty
  pub partial : IsLongPartial s (flights_of t) base first others
  pub ends : last_duty first others ≡ d
  pub vector : v ≡ long_vector_of s price first others
  pub walk : w ≡ walk_of (first ∷ others)

-- a partial of the node has the vector, and no partial of the node has one that beats it
abbrev pub IsUndominated : Settings → Timetable → List ℕ → ℤ → Duty → LongVector → Type 0
IsUndominated s t base price d =
    Undominated is_at_most (At s t base price d)

-- each beginning, the whole list included, has a vector that is undominated at its own node
abbrev pub StaysUndominated : Settings → Timetable → List ℕ → ℤ → Duty → List Duty → Type 0
StaysUndominated s t base price first others =
    (taken left : List Duty) → taken ++ left ≡ others
    → IsUndominated s t base price (last_duty first taken)
    (long_vector_of s price first taken)

-- a clean partial
pub record Clean (s : Settings) (t : Timetable) (base : List ℕ) (price : ℤ)
    (d : Duty) (v : LongVector) (w : List (List Leg)) : Type 0 where
  pub at : At s t base price d v w
  pub stays : StaysUndominated s t base price at.first at.others

-- exactly the undominated vectors of the node, each with the least clean walk that has it
abbrev pub IsFrontAt : Settings → Timetable → List ℕ → ℤ → Duty
    → List (LongVector × List (List Leg)) → Type 0
IsFrontAt s t base price d = IsFront is_at_most walk_at_most
    (At s t base price d) (Clean s t base price d)
