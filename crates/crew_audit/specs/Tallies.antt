-- How many partial pairings there are, how many of them are pairings, and the least cost of a
-- pairing.
use Rattle.std.specs.Prelude.{◌≡◌, ℤ, ◌≤ℤ◌, ◌≤◌, ℕ, true, List, Option, Some, None, length, count_by, if◌then◌else◌}
use Rattle.std.specs.Int.{int_min}
use Rattle.crew_resource.specs.Members.{Member}
use Rattle.crew_pairing.specs.Vectors.{reduced_cost}
use Rattle.crew_flights.specs.Timetable.{Timetable}
use Rattle.crew_rules.specs.declared.settings.Settings.{Settings}
use Rattle.crew_audit.specs.Partials.{ArePartials}
use Rattle.crew_audit.specs.declared.partial.Partial.{Partial}
use Rattle.crew_audit.specs.declared.tally.Tally.{Tally}

-- the cost of a partial: the greatest of the first three parts of its vector
abbrev pub cost_in : Partial → ℤ
cost_in p = reduced_cost p.vector

-- the least cost of the pairings among these, and none where there is no pairing
abbrev pub IsLeast : List Partial → Option ℤ → Type 0
IsLeast ps None = (p : Partial) → Member ps p → p.pairing ≡ true → ⊥
IsLeast ps (Some cost) = ((p : Partial) × Member ps p × (p.pairing ≡ true) × (cost_in p ≡ cost))
    × ((p : Partial) → Member ps p → p.pairing ≡ true → cost ≤ℤ cost_in p)

-- the least so far, and with this partial
abbrev pub least_with : Option ℤ → Partial → Option ℤ
least_with None p = if p.pairing then Some (cost_in p) else None
least_with (Some cost) p = Some (if p.pairing then int_min cost (cost_in p) else cost)

-- what is counted of these partials
pub record IsTally (ps : List Partial) (tally : Tally) : Type 0 where
  pub partials : tally.partials ≡ length ps
  pub pairings : tally.pairings ≡ count_by (λ p. p.pairing) ps
  pub cost : IsLeast ps tally.cost

-- what is counted of all partial pairings of a timetable, where there are at most so many
abbrev pub IsTallyOf : Settings → Timetable → ℕ → Tally → Type 0
IsTallyOf s t limit tally = (ps : List Partial) × ArePartials s t ps × IsTally ps tally
    × (length ps ≤ limit)
