-- What holds of the timetable before any entry.
use Rattle.std.proofs.Common.{◌≡◌, ℕ, List, [], ◌∷◌, length, map, refl, sym, ap, subst, ◌∙◌, arith}
use Rattle.std.specs.FinMap as fin
use Rattle.std.specs.Ordering.{nat_cmp}
use Rattle.crew_flights.specs.Places.{placed}
use Rattle.crew_flights.specs.Timetable.{empty_timetable}
use Rattle.crew_flights.specs.declared.flight.Flight.{Flight}
use Rattle.crew_pairing.specs.Duties.{HasFew, flights_of}
use Rattle.crew_resource.specs.Members.{Member}
use Rattle.crew_rules.specs.declared.settings.Settings.{Settings}

-- there is no flight, so no duty
pub no-duties-at-start : (s : Settings) → HasFew s empty_timetable
no-duties-at-start s =
    ([], record { sound = λ d m. absurd m; every = λ first others legal. none-known _ (legal.known.0); rising = tt }, omega arith)
  where
    no-entries : {E : Type 0} (es : List E) → length es ≡ 0 → es ≡ []
    no-entries [] e = refl
    no-entries (x ∷ es) e = absurd (omega (arith, e))

    no-flights : (flights_of empty_timetable).list ≡ []
    no-flights = ap (λ (es : List (ℕ × Flight)). map (placed empty_timetable) (map (λ (e : ℕ × Flight). e.1) es)) (no-entries (fin.entries empty_timetable.flights) (sym (fin.len-entries empty_timetable.flights) ∙ fin.len-empty nat_cmp Flight))

    none-known : {A : Type 0} (flight : Flight) → Member (flights_of empty_timetable).list flight → A
    none-known flight m = absurd (subst (λ (fs : List Flight). Member fs flight) no-flights m)
