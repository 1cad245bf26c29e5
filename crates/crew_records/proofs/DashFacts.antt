-- How a field is cut at its first dash.
use Rattle.std.proofs.Common.{◌≡◌, ◌<◌, ◌≤◌, ◌+◌, ◌-◌, ℕ, Bool, true, false, nat_lt, List, ◌∷◌, [], length, take, drop, Some, None, cond, refl, arith}
use Rattle.std.specs.List.{position, position_or_len, slice_split}
use Rattle.std.proofs.lemmas.Bool.Decides.{nat_tests}
use Rattle.std.proofs.lemmas.Grind.{common_steps}
use Rattle.std.proofs.lemmas.List.Splits.{slice_split_first, slice_split_none}
use Rattle.std.proofs.lemmas.List.Sums.{fails_before_first}
use Rattle.crew_records.specs.Fields.{is_dash}

past : (n len : ℕ) (b : Bool) → nat_lt n len ≡ b → None ≡ cond b (Some n) None → len ≤ n
past n len true e h = cc h
past n len false e h = grind (arith, nat_tests)

within : (n len i : ℕ) (b : Bool) → nat_lt n len ≡ b → Some i ≡ cond b (Some n) None → (i ≡ n) × (n < len)
within n len i true e h = (cc h, grind (arith, nat_tests))
within n len i false e h = cc h

pub without-dash : (xs : List ℕ) → None ≡ position is_dash xs → slice_split is_dash xs ≡ xs ∷ []
without-dash xs h =
    let all = past (position_or_len is_dash xs) (length xs) (nat_lt (position_or_len is_dash xs) (length xs)) refl h in
    slice_split_none is_dash xs (λ k d less. fails_before_first is_dash xs k d (omega (arith, all, less)))

pub at-dash : (xs : List ℕ) (i : ℕ) → Some i ≡ position is_dash xs → slice_split is_dash xs ≡ take i xs ∷ slice_split is_dash (take (length xs - (i + 1)) (drop (i + 1) xs))
at-dash xs i h =
    let at = within (position_or_len is_dash xs) (length xs) i (nat_lt (position_or_len is_dash xs) (length xs)) refl h in
    let whole : take (length xs - (i + 1)) (drop (i + 1) xs) ≡ drop (i + 1) xs = grind (arith, common_steps) in
    rw (whole, at.0) (slice_split_first is_dash xs 0 at.1)
