-- Partial pairings of up to 240 hours: 14 CFR 117.23(c) and 117.25(b) hold of every window, and
-- what else a partial pairing has to keep stays.
use Rattle.std.specs.Prelude.{◌≡◌, ℕ, Bool, true, ◌&&◌, int_le, pos, List, ◌∷◌, length}
use Rattle.crew_pairing.specs.crew_rules.declared.settings.Settings.{Settings}
use Rattle.crew_pairing.specs.Flights.{Flights}
use Rattle.crew_pairing.specs.Legality.{total}
use Rattle.crew_pairing.specs.Pairings.{AllRested, IsDuty, minutes_away}
use Rattle.crew_pairing.specs.declared.duty.Duty.{Duty}
use Rattle.crew_resource.specs.Members.{Each}
use Rattle.crew_history.specs.Limits.{IsFreeBeforeReports, KeepsWindows, keeps_total}

-- the caps on totals: a pairing of up to 240 hours lies within 672 consecutive hours
abbrev pub is_within_totals : Settings → List Duty → Bool
is_within_totals s duties = keeps_total (pos s.fdp_total) duties
    && (int_le (total (λ d. d.fly) duties) (pos s.fly_cap)
    && (int_le (pos (length duties)) (pos s.max_duties)
    && int_le (minutes_away duties) (pos s.away_cap)))

-- a partial pairing of a base over these flights; `fdp_cap` is the cap of each window, `fdp_total`
-- that of all flight duty
pub record IsLongPartial (s : Settings) (flights : Flights) (base : List ℕ) (first : Duty)
    (others : List Duty) : Type 0 where
  pub legal : Each (IsDuty s flights) (first ∷ others)
  pub leaves : first.from ≡ base
  pub rested : AllRested s first others
  pub capped : is_within_totals s (first ∷ others) ≡ true
  pub windows : KeepsWindows (pos s.fdp_cap) (first ∷ others)
  pub free : IsFreeBeforeReports first others
