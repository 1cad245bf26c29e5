-- What a typed read of an option gives.
use Rattle.std.proofs.Common.{◌≡◌, ◌∙◌, ◌<◌, ◌^◌, ◌&&◌, ℕ, Bool, true, false, cond, List, [], ◌∷◌, length, Option, Some, None, Ok, Err, refl, ap, lt-ltb, ltb-true, true≢false, nat_lt}
use Rattle.std.specs.Char.{digit_value}
use Rattle.std.specs.List.{list_all}
use Rattle.std.specs.Option.{unwrap_or}
use Rattle.std.specs.Str.Parse.{AllDigits, ExplainsUnsignedError, HasUnsignedDigitsIfOk, IsNumeral, ParsesUnsigned, digits_value, without_leading_plus}
use Rattle.std.specs.declared.num.ParseIntError.{ParseIntError}
use Rattle.std.specs.Prelude.{Result}
use Rattle.clap.specs.Words.{ReadsOne}
use Rattle.crew_words.specs.Options.{is_number, is_numeral, number_in}

and-parts : (a b : Bool) → (a && b) ≡ true → (a ≡ true) × (b ≡ true)
and-parts true b h = (refl, h)
and-parts false b h = absurd (true≢false (Rattle.std.proofs.Common.sym h))

all-pass : (ds : List ℕ) → AllDigits 10 ds → list_all (λ c. nat_lt (digit_value c) 10) ds ≡ true
all-pass [] h = refl
all-pass (c ∷ cs) h = rw (lt-ltb (digit_value c) 10 h.0) (all-pass cs h.1)

all-passed : (ds : List ℕ) → list_all (λ c. nat_lt (digit_value c) 10) ds ≡ true → AllDigits 10 ds
all-passed [] h = tt
all-passed (c ∷ cs) h =
    let p = and-parts (nat_lt (digit_value c) 10) (list_all (λ x. nat_lt (digit_value x) 10) cs) h in
    (ltb-true (digit_value c) 10 p.0, all-passed cs p.1)

abbrev IsNumber : List ℕ → Type 0
IsNumber ds = IsNumeral 10 ds × (digits_value 10 ds < 2 ^ 32)

passes : (ds : List ℕ) → IsNumber ds → is_number ds ≡ true
passes ds h = rw (lt-ltb 0 (length ds) h.0.0, all-pass ds h.0.1, lt-ltb (digits_value 10 ds) (2 ^ 32) h.1) refl

passed : (ds : List ℕ) → is_number ds ≡ true → IsNumber ds
passed ds h =
    let p = and-parts (is_numeral ds) (nat_lt (digits_value 10 ds) (2 ^ 32)) h in
    let q = and-parts (nat_lt 0 (length ds)) (list_all (λ c. nat_lt (digit_value c) 10) ds) p.0 in
    ((ltb-true 0 (length ds) q.0, all-passed ds q.1), ltb-true (digits_value 10 ds) (2 ^ 32) p.1)

fails : (ds : List ℕ) → ¬ (IsNumber ds) → (b : Bool) → is_number ds ≡ b → b ≡ false
fails ds absent true e = absurd (absent (passed ds e))
fails ds absent false e = refl

abbrev Gives : List ℕ → Result ℕ ParseIntError → Type 0
Gives bs r = ParsesUnsigned 32 10 bs r × ExplainsUnsignedError 10 bs r × HasUnsignedDigitsIfOk bs r

read : (t : List ℕ) (default : ℕ) (r : Option ℕ) → ReadsOne {T = ℕ} {E = ParseIntError} Gives t r → unwrap_or r default ≡ number_in (Some t) default
read t default (Some v) h = rw (passes (without_leading_plus t) h.0.0) h.0.1
read t default None h = rw (fails (without_leading_plus t) h.1.0 (is_number (without_leading_plus t)) refl) refl

-- the number of an option is that of its text
pub number-read : (text : Option (List ℕ)) (default : ℕ) (r : Option ℕ) → (text ≡ None → r ≡ None)
    → ((t : List ℕ) → text ≡ Some t → ReadsOne {T = ℕ} {E = ParseIntError} Gives t r) → unwrap_or r default ≡ number_in text default
number-read None default r none some = ap (λ o. unwrap_or o default) (none refl)
number-read (Some t) default r none some = read t default r (some t refl)
