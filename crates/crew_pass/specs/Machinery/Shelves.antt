-- What a thread has seen of some pools, by number.
use Rattle.std.specs.Prelude.{◌≡◌, ℕ, List, [], Option, Some, None, get_or, length, map, slice_get}
use Rattle.crew_label.specs.Tables.{AreLinked, Leaving, Tabled, leads_in}
use Rattle.crew_label.specs.Walks.{Leads}
use Rattle.crew_label.specs.declared.label.Label.{Label}
use Rattle.crew_labelling.specs.Labellings.{labelling_of, table_of}
use Rattle.crew_labelling.specs.Terms.{Terms}
use Rattle.crew_resource.specs.Members.{Member}

-- something made of what there is, if there is something
abbrev pub made_of : {X Y : Type 0} → (X → Y) → Option X → Option Y
made_of f None = None
made_of f (Some x) = Some (f x)

-- what there is, or none
abbrev pub or_none : {X : Type 0} → Option (List X) → List X
or_none None = []
or_none (Some xs) = xs

-- the pools that are seen by number: no labels where one isn't
abbrev pub pools_seen : {V : Type 0} → List (Option (List (Label V))) → List (List (Label V))
pools_seen shelf = map or_none shelf

-- the pool of a number is seen
abbrev pub IsThere : {V : Type 0} → List (Option (List (Label V))) → ℕ → Type 0
IsThere {V} shelf number = (labels : List (Label V)) × (slice_get shelf number ≡ Some (Some labels))

-- what was seen is seen still
abbrev pub StaysThere : {V : Type 0} → List (Option (List (Label V)))
    → List (Option (List (Label V))) → Type 0
StaysThere was is = (number : ℕ) → IsThere was number → IsThere is number

-- labels whose links lead to departures that are seen
abbrev pub AreKnown : {V : Type 0} → Leaving → List (Option (List (Label V))) → List (Label V)
    → Type 0
AreKnown {V} leaves departures labels = (l : Label V) → Member labels l
    → Leads (leads_in leaves (pools_seen departures)) l.before

-- what is seen of some pools is right
pub record AreRight {V : Type 0} (right : List (List (Label V)))
    (shelf : List (Option (List (Label V)))) : Type 0 where
  pub long : length shelf ≡ length right
  pub same : (number : ℕ) (labels : List (Label V)) → slice_get shelf number ≡ Some (Some labels)
      → labels ≡ get_or right number []

-- a table of departures, and what is seen of them
pub record Sighted (V : Type 0) : Type 0 where
  pub table : Tabled V
  pub seen : List (List (Label V))

-- what is seen is the table's, and leads to what is seen
pub record IsSighted {V : Type 0} (s : Sighted V) : Type 0 where
  pub linked : AreLinked s.table.leaves [] s.table.pools
  pub same : (i k : ℕ) (l : Label V) → slice_get (get_or s.seen i []) k ≡ Some l
      → slice_get (get_or s.table.pools i []) k ≡ Some l
  pub known : (i : ℕ) (l : Label V) → Member (get_or s.seen i []) l
      → Leads (leads_in s.table.leaves s.seen) l.before

-- the table of the labelling, and what is seen of it
abbrev pub sighted : {V : Type 0} → Terms V → List (Option (List (Label V))) → Sighted V
sighted w departures = record {
  table = table_of w (labelling_of w);
  seen = pools_seen departures;
}
