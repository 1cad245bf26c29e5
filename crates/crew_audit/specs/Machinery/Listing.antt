-- The partial pairings of a base as a tree: below a list of duties stand those that go on from it,
-- by the key of the next duty. In preorder they stand by walk. That this lists exactly the partial
-- pairings is a theorem (proofs/Complete.antt).
use Rattle.std.specs.Prelude.{ℕ, zero, suc, ℤ, Bool, false, ◌&&◌, List, [], ◌∷◌, ◌++◌, map, if◌then◌else◌}
use Rattle.std.specs.FinMap as fin
use Rattle.std.specs.List.{flat_map}
use Rattle.std.specs.Ordering.{eq_by_cmp}
use Rattle.crew_flights.specs.Codes.{code_cmp}
use Rattle.crew_flights.specs.Timetable.{Timetable}
use Rattle.crew_rules.specs.declared.settings.Settings.{Settings}
use Rattle.crew_pairing.specs.Duties.{flights_of}
use Rattle.crew_pairing.specs.Flights.{Flights}
use Rattle.crew_pairing.specs.Machinery.Listing.{all_duties}
use Rattle.crew_pairing.specs.Pairings.{is_pairing, last_duty, may_stand_after}
use Rattle.crew_pairing.specs.declared.duty.Duty.{Duty}
use Rattle.crew_pairing.specs.Vectors.{vector_of}
use Rattle.crew_history.specs.LongPairings.{is_within_totals}
use Rattle.crew_audit.specs.Machinery.Endings.{keeps_limits}
use Rattle.crew_audit.specs.declared.partial.Partial.{Partial}

-- a duty may stand first, or after these
abbrev pub may_join : List ℕ → Settings → List Duty → Duty → Bool
may_join base s [] next = eq_by_cmp code_cmp next.from base
may_join base s (first ∷ others) next = may_stand_after s (last_duty first others) next

-- the caps on totals
abbrev pub keeps_totals : Settings → List Duty → Bool
keeps_totals s duties = is_within_totals s duties

-- a duty goes on from these, within the caps and the limits
abbrev pub goes_on : List ℕ → Settings → List Duty → Duty → Bool
goes_on base s before next =
    may_join base s before next
    && (keeps_totals s (before ++ next ∷ []) && keeps_limits s (before ++ next ∷ []))

abbrev pub comes_back : List ℕ → List Duty → Bool
comes_back base [] = false
comes_back base (first ∷ others) = is_pairing base first others

abbrev pub listed : Settings → List ℕ → ℤ → List Duty → Partial
listed s base price duties = record {
  base = base;
  walk = map (λ d. d.key) duties;
  vector = vector_of s price duties;
  pairing = comes_back base duties;
}

-- the partials that go on from these duties, with at most `room` duties more
unfoldable pub after : ℕ → Settings → Flights → List ℕ → ℤ → List Duty → List Partial
after zero s flights base price before = []
after (suc room) s flights base price before =
    flat_map
    (λ next. if goes_on base s before next then listed s base price (before ++ next ∷ []) ∷ after
    room s flights base price (before ++ next ∷ []) else [])
    (all_duties s flights)

-- these duties and the partials that go on from them, where they keep the limits
abbrev pub begun_by : ℕ → Settings → Flights → List ℕ → ℤ → List Duty → List Partial
begun_by room s flights base price duties =
    if keeps_limits s duties then listed s base price duties ∷ after room s flights base price
    duties else []

-- those that go on with this duty
abbrev pub with_next : ℕ → Settings → Flights → List ℕ → ℤ → List Duty → Duty → List Partial
with_next room s flights base price before next =
    if goes_on base s before next then listed s base price (before ++ next ∷ []) ∷ after room s
    flights base price (before ++ next ∷ []) else []

-- all partials of a base with its price
abbrev pub of_base : Settings → Flights → List ℕ × ℤ → List Partial
of_base s flights b = after s.max_duties s flights b.0 b.1 []

-- all partials
abbrev pub all_partials : Settings → Timetable → List Partial
all_partials s t = flat_map (of_base s (flights_of t)) (fin.entries t.bases)
