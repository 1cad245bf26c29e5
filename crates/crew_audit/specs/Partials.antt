-- All partial pairings of a timetable, by base and walk.
use Rattle.std.specs.Prelude.{◌≡◌, ◌<◌, ℕ, ℤ, List, [], ◌∷◌, Some, length, map}
use Rattle.std.specs.FinMap as fin
use Rattle.std.specs.declared.cmp.Ordering.{Ordering}
use Rattle.std.specs.declared.cmp.Ordering.TheVariants.{Less}
use Rattle.std.specs.Ordering.{then_cmp}
use Rattle.crew_flights.specs.Codes.{code_cmp}
use Rattle.crew_flights.specs.Timetable.{Timetable}
use Rattle.crew_rules.specs.declared.settings.Settings.{Settings}
use Rattle.crew_pairing.specs.Duties.{flights_of}
use Rattle.crew_pairing.specs.Keys.{walk_cmp}
use Rattle.crew_resource.specs.Members.{Each, Member}
use Rattle.crew_pairing.specs.Pairings.{is_pairing}
use Rattle.crew_pairing.specs.declared.duty.Duty.{Duty}
use Rattle.crew_pairing.specs.Vectors.{vector_of}
use Rattle.crew_history.specs.LongPairings.{IsLongPartial}
use Rattle.crew_audit.specs.declared.partial.Partial.{Partial}

-- a first duty and others, as a partial pairing of a base with this price
abbrev pub partial_of : Settings → List ℕ → ℤ → Duty → List Duty → Partial
partial_of s base price first others = record {
  base = base;
  walk = map (λ d. d.key) (first ∷ others);
  vector = vector_of s price (first ∷ others);
  pairing = is_pairing base first others;
}

-- a partial pairing of a base of the timetable, with its walk and its vector, and whether it is a
-- pairing
pub record IsPartialOf (s : Settings) (t : Timetable) (p : Partial) : Type 0 where
  pub base : List ℕ
  pub price : ℤ
  pub first : Duty
  pub others : List Duty
  pub held : fin.get t.bases base ≡ Some price
  pub partial : IsLongPartial s (flights_of t) base first others
  pub given : p ≡ partial_of s base price first others

-- by base, and then by walk
abbrev pub partial_cmp : Partial → Partial → Ordering
partial_cmp = then_cmp (λ a b. code_cmp a.base b.base) (λ a b. walk_cmp a.walk b.walk)

-- each stands before all later ones
abbrev pub Rise : List Partial → Type 0
Rise [] = Unit {0}
Rise (p ∷ ps) = Each (λ q. partial_cmp p q ≡ Less) ps × Rise ps

-- exactly the partial pairings of a timetable, each once, in order
pub record ArePartials (s : Settings) (t : Timetable) (ps : List Partial) : Type 0 where
  pub sound : (p : Partial) → Member ps p → IsPartialOf s t p
  pub every : (p : Partial) → IsPartialOf s t p → Member ps p
  pub rising : Rise ps

-- a timetable has more than so many partial pairings
abbrev pub HasMoreThan : Settings → Timetable → ℕ → Type 0
HasMoreThan s t limit = (ps : List Partial) × ArePartials s t ps × (limit < length ps)
