-- Settings that pass each test are in their ranges.
use Rattle.std.proofs.Common.{◌≡◌, ◌≤◌, ◌+◌, ℕ, List, [], ◌∷◌, None, Some, Bool, true, false, refl, arith, cond, not, nat_lt, length}
use Rattle.std.specs.Prelude.{position}
use Rattle.std.specs.List.{position_or_len}
use Rattle.std.proofs.lemmas.Bool.Decides.{nat_tests}
use Rattle.crew_rules.specs.Range.{is_in_range}
use Rattle.crew_rules.specs.Settings.{IsChecked, ranges}
use Rattle.crew_rules.specs.declared.settings.Settings.{Settings}

-- each value is in its range
abbrev AllIn : List (ℕ × ℕ × ℕ) → Type 0
AllIn [] = Unit {0}
AllIn (r ∷ rs) = ((r.1 ≤ r.0) × (r.0 ≤ r.2)) × AllIn rs

step : (r : ℕ × ℕ × ℕ) (rs : List (ℕ × ℕ × ℕ)) (b : Bool) (n : ℕ) → is_in_range r ≡ b → length (r ∷ rs) ≤ cond (not (not b)) (1 + n) 0 → (length rs ≤ n → AllIn rs)
    → AllIn (r ∷ rs)
step r rs true n i e more = ((grind (arith, nat_tests), grind (arith, nat_tests)), more (omega arith))
step r rs false n i e more = absurd (omega arith)

all-in : (rs : List (ℕ × ℕ × ℕ)) → length rs ≤ position_or_len (λ r. not (is_in_range r)) rs → AllIn rs
all-in [] e = tt
all-in (r ∷ rs) e = step r rs (is_in_range r) _ refl e (all-in rs)

none-found : (b : Bool) (n : ℕ) → cond b (Some n) None ≡ None → b ≡ false
none-found true n e = cc
none-found false n e = refl

pub checked : (s : Settings) → position (λ r. not (is_in_range r)) (ranges s) ≡ None → IsChecked s
checked s e =
    let none = none-found (nat_lt (position_or_len (λ r. not (is_in_range r)) (ranges s)) (length (ranges s))) _ e in
    let far : length (ranges s) ≤ position_or_len (λ r. not (is_in_range r)) (ranges s) = grind (arith, nat_tests) in
    let h = all-in (ranges s) far in
    record {
      lead = h.0.1;
      debrief = h.1.0.1;
      connect = h.1.1.0.1;
      sit = h.1.1.1.0.0;
      sit_most = h.1.1.1.0.1;
      max_rest = h.1.1.1.1.0.0;
      max_rest_most = h.1.1.1.1.0.1;
      max_duties = h.1.1.1.1.1.0.0;
      max_duties_most = h.1.1.1.1.1.0.1;
      fdp_cap = h.1.1.1.1.1.1.0.0;
      fdp_cap_most = h.1.1.1.1.1.1.0.1;
      fly_cap = h.1.1.1.1.1.1.1.0.0;
      fly_cap_most = h.1.1.1.1.1.1.1.0.1;
      away_cap = h.1.1.1.1.1.1.1.1.0.0;
      away_cap_most = h.1.1.1.1.1.1.1.1.0.1;
      duty_rig = h.1.1.1.1.1.1.1.1.1.0.1;
      trip_rig = h.1.1.1.1.1.1.1.1.1.1.0.1;
      duty_min = h.1.1.1.1.1.1.1.1.1.1.1.0.1;
      guarantee = h.1.1.1.1.1.1.1.1.1.1.1.1.0.1;
      deadheads = h.1.1.1.1.1.1.1.1.1.1.1.1.1.0.1;
      fdp_total = h.1.1.1.1.1.1.1.1.1.1.1.1.1.1.0.0;
      fdp_total_most = h.1.1.1.1.1.1.1.1.1.1.1.1.1.1.0.1;
    }
