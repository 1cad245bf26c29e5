-- Where settings allow no pairing of more than 138 hours, partials are those of the shorter rules, by their sums.
use Rattle.std.proofs.Common.{◌≡◌, ℕ, ◌≤◌, false, cond, List, [], ◌∷◌, ℤ, pos, sym, ap, subst, arith}
use Rattle.std.specs.Prelude.{nat_lt}
use Rattle.std.proofs.lemmas.Bool.Decides.{nat_tests}
use Rattle.crew_flights.specs.Timetable.{IsSound, Timetable}
use Rattle.crew_rules.specs.declared.settings.Settings.{Settings}
use Rattle.crew_pairing.specs.Duties.{flights_of}
use Rattle.crew_pairing.specs.Pairings.{IsPartial}
use Rattle.crew_pairing.specs.Vectors.{vector_of}
use Rattle.crew_pairing.specs.declared.duty.Duty.{Duty}
use Rattle.crew_history.specs.LongPairings.{IsLongPartial}
use Rattle.crew_history.specs.Limits as Limits
use Rattle.crew_history.proofs.ShortPairings.{long_from_short, short_from_long}
use Rattle.crew_answers.specs.LongVectors.{LongVector, is_long, long_vector_of, settings_of_sums}
use Rattle.crew_answers.specs.ShortPairings.{with_no_past}

pub not-long : (s : Settings) → s.away_cap ≤ 8_280 → is_long s ≡ false
not-long s h = below s.away_cap h
  where
    below : (a : ℕ) → a ≤ 8_280 → nat_lt 8_280 a ≡ false
    below a h = grind (arith, nat_tests)

pub short-away : (s : Settings) → is_long s ≡ false → s.away_cap ≤ 8_280
short-away s h = below s.away_cap h
  where
    below : (a : ℕ) → nat_lt 8_280 a ≡ false → a ≤ 8_280
    below a h = grind (arith, nat_tests)

-- the vector of a list has no past
pub no-past : (s : Settings) (price : ℤ) (first : Duty) (others : List Duty) → is_long s ≡ false
    → long_vector_of s price first others ≡ with_no_past (vector_of (settings_of_sums s) price (first ∷ others))
no-past s price first others e =
    ap (λ b. let v : LongVector = record {
      sums = vector_of s price (first ∷ others);
      since_rest = cond b (Limits.since_rest first others) (pos 0);
      history = cond b (Limits.history_of first others) [];
    } in v) e

-- the settings of its sums are its own
pub same-settings : (s : Settings) → is_long s ≡ false → settings_of_sums s ≡ s
same-settings s short = ap (λ b. let r : Settings = record s { fdp_cap = cond b s.fdp_total s.fdp_cap } in r) short

module _ (s : Settings) (t : Timetable) (base : List ℕ) (first : Duty) (others : List Duty) (sound : IsSound t)
    (short : is_long s ≡ false) where
  stays : settings_of_sums s ≡ s
  stays = same-settings s short

  pub partial-from-long : IsLongPartial s (flights_of t) base first others → IsPartial (settings_of_sums s) (flights_of t) base first others
  partial-from-long p = subst (λ x. IsPartial x (flights_of t) base first others) (sym stays) (short_from_long s t base first others sound (short-away s short) p)

  pub partial-to-long : IsPartial (settings_of_sums s) (flights_of t) base first others → IsLongPartial s (flights_of t) base first others
  partial-to-long p = long_from_short s t base first others sound (short-away s short) (subst (λ x. IsPartial x (flights_of t) base first others) stays p)
