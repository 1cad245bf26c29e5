-- Events by number: where each stands among others.
use Rattle.std.specs.Prelude.{◌≡◌, ℕ, suc, Bool, ◌&&◌, cond, List, [], ◌∷◌, Some, slice_get}
use Rattle.std.specs.Ordering.{eq_by_cmp, int_eq}
use Rattle.crew_flights.specs.Codes.{code_cmp}
use Rattle.crew_pairing.specs.declared.events.Arrival.{Arrival}
use Rattle.crew_pairing.specs.declared.events.Departure.{Departure}

-- the place of the first that passes a test, or how many there are where none does
abbrev pub place_of : {E : Type 0} → (E → Bool) → List E → ℕ
place_of passes [] = 0
place_of passes (e ∷ es) = cond (passes e) 0 (suc (place_of passes es))

abbrev pub is_departure : Departure → Departure → Bool
is_departure g h = eq_by_cmp code_cmp g.airport h.airport && int_eq g.report h.report

abbrev pub is_arrival : Arrival → Arrival → Bool
is_arrival x y = eq_by_cmp code_cmp x.airport y.airport && int_eq x.release y.release

abbrev pub departure_place : List Departure → Departure → ℕ
departure_place departures g = place_of (λ h. is_departure h g) departures

abbrev pub arrival_place : List Arrival → Arrival → ℕ
arrival_place arrivals x = place_of (λ y. is_arrival y x) arrivals

-- each stands in one place
abbrev pub AreDistinct : {E : Type 0} → List E → Type 0
AreDistinct {E} es = (i j : ℕ) (e : E) → slice_get es i ≡ Some e → slice_get es j ≡ Some e → i ≡ j
