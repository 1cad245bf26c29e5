-- The vector of a list of duties of a pairing of up to 240 hours. Beside the seven sums it has two
-- parts that are none: how long ago the last long rest ended, for 14 CFR 117.25(b), and the flight
-- duty periods of the last 168 hours, for 117.23(c). A pairing of at most 138 hours needs neither,
-- so where settings allow no longer ones both are the same for all lists. A list of duties stands
-- as its first duty and the list of the others.
use Rattle.std.specs.Prelude.{Bool, cond, nat_lt, ℤ, pos, List, [], ◌∷◌}
use Rattle.crew_rules.specs.declared.settings.Settings.{Settings}
use Rattle.crew_pairing.specs.Vectors.{vector_of}
use Rattle.crew_pairing.specs.declared.duty.Duty.{Duty}
use Rattle.crew_pairing.specs.declared.vector.PairingVector.{PairingVector}
use Rattle.crew_history.specs.Limits as Limits

-- the settings allow pairings of more than 138 hours
abbrev pub is_long : Settings → Bool
is_long s = nat_lt 8_280 s.away_cap

pub record LongVector : Type 0 where
  pub sums : PairingVector
  -- minutes from the end of the last rest of 1,800 minutes or more, or from the first report, to
  -- the last report
  pub since_rest : ℤ
  -- the flight duty periods of the 10,080 minutes that end with the last arrival
  pub history : List (ℤ × ℤ)

abbrev pub long_vector_of : Settings → ℤ → Duty → List Duty → LongVector
long_vector_of s base_price first others = record {
  sums = vector_of s base_price (first ∷ others);
  since_rest = cond (is_long s) (Limits.since_rest first others) (pos 0);
  history = cond (is_long s) (Limits.history_of first others) [];
}

-- settings under whose caps the seven sums stand: the cap of a window is one on all flight duty
-- minutes where one window covers every pairing, and none where it doesn't
abbrev pub settings_of_sums : Settings → Settings
settings_of_sums s = record s { fdp_cap = cond (is_long s) s.fdp_total s.fdp_cap }
