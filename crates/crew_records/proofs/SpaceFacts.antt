-- How a field is cut at its first space.
use Rattle.std.proofs.Common.{◌≡◌, ◌<◌, ◌≤◌, ◌+◌, ◌-◌, ℕ, Bool, true, false, nat_lt, List, ◌∷◌, [], length, take, drop, Some, None, cond, refl, arith}
use Rattle.std.specs.List.{position, position_or_len, slice_split}
use Rattle.std.proofs.lemmas.Bool.Decides.{nat_tests}
use Rattle.std.proofs.lemmas.Grind.{common_steps}
use Rattle.std.proofs.lemmas.List.Splits.{slice_split_first, slice_split_none}
use Rattle.std.proofs.lemmas.List.Sums.{fails_before_first}
use Rattle.crew_records.specs.Fields.{is_space}

past : (n len : ℕ) (b : Bool) → nat_lt n len ≡ b → None ≡ cond b (Some n) None → len ≤ n
past n len true e h = cc h
past n len false e h = grind (arith, nat_tests)

within : (n len i : ℕ) (b : Bool) → nat_lt n len ≡ b → Some i ≡ cond b (Some n) None → (i ≡ n) × (n < len)
within n len i true e h = (cc h, grind (arith, nat_tests))
within n len i false e h = cc h

pub without-space : (xs : List ℕ) → None ≡ position is_space xs → slice_split is_space xs ≡ xs ∷ []
without-space xs h =
    let all = past (position_or_len is_space xs) (length xs) (nat_lt (position_or_len is_space xs) (length xs)) refl h in
    slice_split_none is_space xs (λ k d less. fails_before_first is_space xs k d (omega (arith, all, less)))

pub at-space : (xs : List ℕ) (i : ℕ) → Some i ≡ position is_space xs → slice_split is_space xs ≡ take i xs ∷ slice_split is_space (take (length xs - (i + 1)) (drop (i + 1) xs))
at-space xs i h =
    let at = within (position_or_len is_space xs) (length xs) i (nat_lt (position_or_len is_space xs) (length xs)) refl h in
    let whole : take (length xs - (i + 1)) (drop (i + 1) xs) ≡ drop (i + 1) xs = grind (arith, common_steps) in
    rw (whole, at.0) (slice_split_first is_space xs 0 at.1)
