-- How large a number of so many digits is.
use Rattle.std.proofs.Common.{◌≡◌, ◌≢◌, ◌<◌, ◌≤◌, ◌+◌, ◌-◌, ◌*◌, ◌^◌, ℕ, true, List, [], ◌∷◌, length, get_or, arith, rules}
use Rattle.std.specs.Char.{is_ascii_digit}
use Rattle.std.specs.List.{list_all}
use Rattle.std.proofs.lemmas.Bool.Decides.{nat_tests}
use Rattle.std.proofs.lemmas.Grind.{common_steps}
use Rattle.std.proofs.lemmas.Str.Parse.{IsNumeralModel, numerals_by_fold, digits_value_short, digit_at}
use Rattle.crew_records.specs.Fields.{read_on}

own : IsNumeralModel (λ ds. list_all is_ascii_digit ds ≡ true) (read_on 0)
own = numerals_by_fold _ (search rules) read_on (search rules)

pub read_on-small : (ds : List ℕ) (k : ℕ) → list_all is_ascii_digit ds ≡ true → length ds ≤ k → read_on 0 ds < 10 ^ k
read_on-small ds k p h = digits_value_short own ds k p h

pub read_on-grows : (n : ℕ) (bs : List ℕ) → n ≤ read_on n bs
read_on-grows n [] = omega arith
read_on-grows n (b ∷ bs) = omega (arith, read_on-grows (n * 10 + (b - 48)) bs)

pub read_on-least : (bs : List ℕ) → 0 < length bs → list_all is_ascii_digit bs ≡ true → get_or bs 0 0 ≢ 48 → 1 ≤ read_on 0 bs
read_on-least [] h p n = absurd (omega arith)
read_on-least (b ∷ bs) h p n =
    let grows = read_on-grows (0 * 10 + (b - 48)) bs in
    let digit : 49 ≤ b = grind (arith, nat_tests, common_steps) in
    omega (arith, grows)

pub digit_from : (bs : List ℕ) (i : ℕ) → list_all is_ascii_digit bs ≡ true → i < length bs → 48 ≤ get_or bs i 0
digit_from bs i p h = (digit_at bs i (own.to bs p) h).0

pub ruleset number_facts = (read_on-small, read_on-grows, read_on-least, digit_from)
