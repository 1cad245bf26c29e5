-- A rule's text is ASCII, and begins with a letter or `<`.
use Rattle.std.proofs.Common.{◌≡◌, ◌<◌, ◌-◌, ◌+ℤ◌, ℕ, ℤ, pos, Bool, true, false, not, nat_le, ◌==◌, ◌&&◌, List, [], ◌∷◌, take, drop, length, Option, Some, None, refl, arith}
use Rattle.std.specs.Prelude.{IfSome, IsUtf8, if◌then◌else◌}
use Rattle.std.specs.Option.{option_and_then}
use Rattle.std.specs.List.{prefix_len}
use Rattle.std.specs.Char.{is_ascii_digit, is_ascii_alphabetic}
use Rattle.std.specs.Str.{IsAscii}
use Rattle.std.proofs.lemmas.Bool.Decides.{nat_tests}
use Rattle.std.proofs.lemmas.List.{take-append-drop}
use Rattle.std.proofs.lemmas.Str.{IsAscii-append, IsUtf8-from_ascii}
use Rattle.std.proofs.lemmas.Str.Ascii.{IsAscii-from_all, IsAscii-nil}
use Rattle.jiff_tz.proofs.PosixLemmas.{take_ascii}
use Rattle.jiff_tz.specs.PosixReader.{Read, abbreviation_of, at_most, begins, begins_name, between, is_quoted_byte, letters_len, match_some, quoted_len, read_abbreviation, read_after_minute, read_byte, read_day, read_day_time, read_digit, read_dst, read_exactly_two, read_julian_one, read_julian_zero, read_minutes, read_offset, read_quoted, read_rule_time, read_sign, read_sixty, read_tz, read_unquoted, read_up_to_three, read_up_to_two, read_weekday_of_month, read_whole}
use Rattle.jiff_tz.specs.PosixText.{TzText}
use Rattle.crew_clocks.specs.Zone.{begins_zone}

-- where the text that is left is ASCII, so is the whole
abbrev Left : {A : Type 0} → List ℕ → A × List ℕ → Type 0
Left text p = IsAscii p.1 → IsAscii text

any : {A : Type 0} (o : Option A) → IfSome o (λ a. Unit {0})
any None = tt
any (Some a) = tt

bind : {A B : Type 0} (o : Option A) (f : A → Option B) (P : A → Type 0) (Q : B → Type 0) → IfSome o P → ((a : A) → P a → IfSome (f a) Q) → IfSome (option_and_then f o) Q
bind None f P Q h k = tt
bind (Some a) f P Q h k = k a h

choose : {B : Type 0} (t : Bool) (o p : Option B) (Q : B → Type 0) → (t ≡ true → IfSome o Q) → (t ≡ false → IfSome p Q) → IfSome (if t then o else p) Q
choose true o p Q h k = h refl
choose false o p Q h k = k refl

maybe : {A B : Type 0} (o : Option A) (other : Option B) (f : A → Option B) (P : A → Type 0) (Q : B → Type 0) → IfSome o P → IfSome other Q → ((a : A) → P a → IfSome (f a) Q) → IfSome (match_some o other f) Q
maybe None other f P Q h n k = n
maybe (Some a) other f P Q h n k = k a h

weaker : {A : Type 0} (o : Option A) (P Q : A → Type 0) → IfSome o P → ((a : A) → P a → Q a) → IfSome o Q
weaker None P Q h k = tt
weaker (Some a) P Q h k = k a h

ascii-cons : (b : ℕ) (rest : List ℕ) → b < 128 → IsAscii rest → IsAscii (b ∷ rest)
ascii-cons b rest h k = IsAscii-append (b ∷ []) rest (IsAscii-from_all (b ∷ []) (search (arith, h))) k

byte : (c : ℕ) (text : List ℕ) → c < 128 → IfSome (read_byte c text) (λ rest. IsAscii rest → IsAscii text)
unfolding read_byte
byte c [] h = tt
byte c (b ∷ rest) h = choose (b == c) (Some rest) None (λ left. IsAscii left → IsAscii (b ∷ rest)) (λ e k. ascii-cons b rest (grind (arith, nat_tests)) k) (λ e. tt)

digit : (text : List ℕ) → IfSome (read_digit text) (Left text)
unfolding read_digit
digit [] = tt
digit (b ∷ rest) = choose (is_ascii_digit b) (Some (b - 48, rest)) None (Left (b ∷ rest)) (λ e k. ascii-cons b rest (grind (arith, nat_tests)) k) (λ e. tt)

at-most : (limit : ℕ) (r : Read ℕ) (Q : ℕ × List ℕ → Type 0) → IfSome r Q → IfSome (at_most limit r) Q
at-most limit r Q h = bind r _ Q Q h (λ p k. choose (nat_le p.0 limit) (Some p) None Q (λ e. k) (λ e. tt))

in-between : (low high : ℕ) (r : Read ℕ) (Q : ℕ × List ℕ → Type 0) → IfSome r Q → IfSome (between low high r) Q
in-between low high r Q h = bind r _ Q Q h (λ p k. choose (nat_le low p.0 && nat_le p.0 high) (Some p) None Q (λ e. k) (λ e. tt))

exactly-two : (text : List ℕ) → IfSome (read_exactly_two text) (Left text)
unfolding read_exactly_two
exactly-two text = bind (read_digit text) _ (Left text) (Left text) (digit text) (λ tens h.
    bind (read_digit tens.1) _ (Left tens.1) (Left text) (digit tens.1) (λ ones k z. h (k z)))

up-to-two : (text : List ℕ) → IfSome (read_up_to_two text) (Left text)
unfolding read_up_to_two
up-to-two text = bind (read_digit text) _ (Left text) (Left text) (digit text) (λ first h.
    maybe (read_digit first.1) (Some first) _ (Left first.1) (Left text) (digit first.1) h (λ second k z. h (k z)))

up-to-three : (text : List ℕ) → IfSome (read_up_to_three text) (Left text)
unfolding read_up_to_three
up-to-three text = bind (read_digit text) _ (Left text) (Left text) (digit text) (λ first h.
    maybe (read_digit first.1) (Some first) _ (Left first.1) (Left text) (digit first.1) h (λ second k.
    maybe (read_digit second.1) _ _ (Left second.1) (Left text) (digit second.1) (λ z. h (k z)) (λ third l z. h (k (l z)))))

sixty : (text : List ℕ) → IfSome (read_sixty text) (Left text)
unfolding read_sixty
sixty text = bind (read_byte 58 text) _ (λ rest. IsAscii rest → IsAscii text) (Left text) (byte 58 text (omega arith)) (λ rest h.
    at-most 59 (read_exactly_two rest) (Left text) (weaker (read_exactly_two rest) (Left rest) (Left text) (exactly-two rest) (λ p k z. h (k z))))

after-minute : (minute : ℕ × List ℕ) → IfSome (read_after_minute minute) (Left minute.1)
after-minute minute = choose (begins 58 minute.1) _ _ (Left minute.1)
    (λ e. bind (read_sixty minute.1) _ (Left minute.1) (Left minute.1) (sixty minute.1) (λ second k. k))
    (λ e z. z)

minutes : (text : List ℕ) → IfSome (read_minutes text) (Left text)
unfolding read_minutes
minutes text = choose (begins 58 text) _ _ (Left text)
    (λ e. bind (read_sixty text) _ (Left text) (Left text) (sixty text) (λ minute h. weaker (read_after_minute minute) (Left minute.1) (Left text) (after-minute minute) (λ p k z. h (k z))))
    (λ e z. z)

abbrev signed : Bool → Bool → ℕ → List ℕ → Bool × List ℕ
signed s t b rest = if s then (true, rest) else (if t then (false, rest) else (false, b ∷ rest))

sign : (text : List ℕ) → IsAscii (read_sign text).1 → IsAscii text
unfolding read_sign
sign [] h = h
sign (b ∷ rest) h = by (b == 45) refl (b == 43) refl h
  where
    by : (s : Bool) → (b == 45) ≡ s → (t : Bool) → (b == 43) ≡ t → IsAscii (signed s t b rest).1 → IsAscii (b ∷ rest)
    by true e t f h = ascii-cons b rest (grind (arith, nat_tests)) h
    by false e true f h = ascii-cons b rest (grind (arith, nat_tests)) h
    by false e false f h = h

offset : (text : List ℕ) → IfSome (read_offset text) (Left text)
unfolding read_offset
offset text = bind (at_most 24 (read_up_to_two (read_sign text).1)) _ (Left (read_sign text).1) (Left text) (at-most 24 (read_up_to_two (read_sign text).1) (Left (read_sign text).1) (up-to-two (read_sign text).1)) (λ hour h.
    bind (read_minutes hour.1) _ (Left hour.1) (Left text) (minutes hour.1) (λ m k z. sign text (h (k z))))

rule-time : (text : List ℕ) → IfSome (read_rule_time text) (Left text)
unfolding read_rule_time
rule-time text = bind (at_most 167 (read_up_to_three (read_sign text).1)) _ (Left (read_sign text).1) (Left text) (at-most 167 (read_up_to_three (read_sign text).1) (Left (read_sign text).1) (up-to-three (read_sign text).1)) (λ hour h.
    bind (read_minutes hour.1) _ (Left hour.1) (Left text) (minutes hour.1) (λ m k z. sign text (h (k z))))

weekday : (text : List ℕ) → IfSome (read_weekday_of_month text) (Left text)
unfolding read_weekday_of_month
weekday text = bind (between 1 12 (read_up_to_two text)) _ (Left text) (Left text) (in-between 1 12 (read_up_to_two text) (Left text) (up-to-two text)) (λ month h.
    bind (read_byte 46 month.1) _ (λ rest. IsAscii rest → IsAscii month.1) (Left text) (byte 46 month.1 (omega arith)) (λ week_text k.
    bind (between 1 5 (read_digit week_text)) _ (Left week_text) (Left text) (in-between 1 5 (read_digit week_text) (Left week_text) (digit week_text)) (λ week l.
    bind (read_byte 46 week.1) _ (λ rest. IsAscii rest → IsAscii week.1) (Left text) (byte 46 week.1 (omega arith)) (λ day_text m.
    bind (at_most 6 (read_digit day_text)) _ (Left day_text) (Left text) (at-most 6 (read_digit day_text) (Left day_text) (digit day_text)) (λ day n z. h (k (l (m (n z)))))))))

julian-one : (text : List ℕ) → IfSome (read_julian_one text) (Left text)
unfolding read_julian_one
julian-one text = bind (between 1 365 (read_up_to_three text)) _ (Left text) (Left text) (in-between 1 365 (read_up_to_three text) (Left text) (up-to-three text)) (λ day h. h)

julian-zero : (text : List ℕ) → IfSome (read_julian_zero text) (Left text)
unfolding read_julian_zero
julian-zero text = bind (at_most 365 (read_up_to_three text)) _ (Left text) (Left text) (at-most 365 (read_up_to_three text) (Left text) (up-to-three text)) (λ day h. h)

day-of : (text : List ℕ) → IfSome (read_day text) (Left text)
unfolding read_day
day-of [] = julian-zero []
day-of (b ∷ rest) = choose (b == 74) _ _ (Left (b ∷ rest))
    (λ e. weaker (read_julian_one rest) (Left rest) (Left (b ∷ rest)) (julian-one rest) (λ p k z. ascii-cons b rest (grind (arith, nat_tests)) (k z)))
    (λ e. choose (b == 77) _ _ (Left (b ∷ rest))
    (λ f. weaker (read_weekday_of_month rest) (Left rest) (Left (b ∷ rest)) (weekday rest) (λ p k z. ascii-cons b rest (grind (arith, nat_tests)) (k z)))
    (λ f. julian-zero (b ∷ rest)))

day-time : (text : List ℕ) → IfSome (read_day_time text) (Left text)
unfolding read_day_time
day-time text = bind (read_day text) _ (Left text) (Left text) (day-of text) (λ day h.
    maybe (read_byte 47 day.1) _ _ (λ rest. IsAscii rest → IsAscii day.1) (Left text) (byte 47 day.1 (omega arith)) h (λ time_text k.
    bind (read_rule_time time_text) _ (Left time_text) (Left text) (rule-time time_text) (λ time l z. h (k (l z)))))

letter-small : (b : ℕ) → not (not (is_ascii_alphabetic b)) ≡ true → b < 128
letter-small b h = grind (arith, nat_tests)

quoted-small : (b : ℕ) → not (not (is_quoted_byte b)) ≡ true → b < 128
quoted-small b h = grind (arith, nat_tests)

after-name : (p : ℕ → Bool) → ((b : ℕ) → p b ≡ true → b < 128) → (text : List ℕ) → IsAscii (drop (prefix_len p text) text) → IsAscii text
after-name p small text h =
    let whole = IsAscii-append (take (prefix_len p text) text) (drop (prefix_len p text) text) (take_ascii p small text) h in
    rw (take-append-drop (prefix_len p text) text) at whole

unquoted : (text : List ℕ) → IfSome (read_unquoted text) (Left text)
unfolding read_unquoted
unquoted text = bind (abbreviation_of text (letters_len text)) _ (λ name. Unit {0}) (Left text) (any (abbreviation_of text (letters_len text)))
    (λ name u z. after-name (λ b. not (not (is_ascii_alphabetic b))) letter-small text z)

quoted : (text : List ℕ) → IfSome (read_quoted text) (Left text)
unfolding read_quoted
quoted text = bind (abbreviation_of text (quoted_len text)) _ (λ name. Unit {0}) (Left text) (any (abbreviation_of text (quoted_len text))) (λ name u.
    bind (read_byte 62 (drop (quoted_len text) text)) _ (λ rest. IsAscii rest → IsAscii (drop (quoted_len text) text)) (Left text) (byte 62 (drop (quoted_len text) text) (omega arith))
    (λ rest k z. after-name (λ b. not (not (is_quoted_byte b))) quoted-small text (k z)))

abbreviation : (text : List ℕ) → IfSome (read_abbreviation text) (Left text)
unfolding read_abbreviation
abbreviation [] = unquoted []
abbreviation (b ∷ rest) = choose (b == 60) _ _ (Left (b ∷ rest))
    (λ e. weaker (read_quoted rest) (Left rest) (Left (b ∷ rest)) (quoted rest) (λ p k z. ascii-cons b rest (grind (arith, nat_tests)) (k z)))
    (λ e. unquoted (b ∷ rest))

dst : (std : ℤ) (text : List ℕ) → IfSome (read_dst std text) (Left text)
unfolding read_dst
dst std text = bind (read_abbreviation text) _ (Left text) (Left text) (abbreviation text) (λ name h.
    bind (if begins 44 name.1 then Some (std +ℤ pos 3600, name.1) else read_offset name.1) _ (Left name.1) (Left text)
    (choose (begins 44 name.1) _ _ (Left name.1) (λ e z. z) (λ e. offset name.1)) (λ off k.
    bind (read_byte 44 off.1) _ (λ rest. IsAscii rest → IsAscii off.1) (Left text) (byte 44 off.1 (omega arith)) (λ start_text l.
    bind (read_day_time start_text) _ (Left start_text) (Left text) (day-time start_text) (λ start m.
    bind (read_byte 44 start.1) _ (λ rest. IsAscii rest → IsAscii start.1) (Left text) (byte 44 start.1 (omega arith)) (λ finish_text n.
    bind (read_day_time finish_text) _ (Left finish_text) (Left text) (day-time finish_text) (λ finish o z. h (k (l (m (n (o z)))))))))))

tz : (text : List ℕ) → IfSome (read_tz text) (Left text)
unfolding read_tz
tz text = bind (read_abbreviation text) _ (Left text) (Left text) (abbreviation text) (λ name h.
    bind (read_offset name.1) _ (Left name.1) (Left text) (offset name.1) (λ off k.
    choose (begins_name off.1) _ _ (Left text)
    (λ e. bind (read_dst off.0 off.1) _ (Left off.1) (Left text) (dst off.0 off.1) (λ d l z. h (k (l z))))
    (λ e z. h (k z))))

-- where a rule is read, its text is ASCII
whole : (text : List ℕ) → IfSome (read_whole text) (λ rule. IsAscii text)
unfolding read_whole
whole text = bind (read_tz text) _ (Left text) (λ rule. IsAscii text) (tz text) (λ p h.
    choose (length p.1 == 0) _ _ (λ rule. IsAscii text) (λ e. h (no-text p.1 (grind (arith, nat_tests)))) (λ e. tt))
  where
    no-text : (left : List ℕ) → length left ≡ 0 → IsAscii left
    no-text [] e = IsAscii-nil
    no-text (b ∷ rest) e = absurd (omega arith)

letters-begin : (b : ℕ) (rest : List ℕ) → IfSome (read_unquoted (b ∷ rest)) (λ p. begins_zone (b ∷ rest) ≡ true)
unfolding read_unquoted
letters-begin b rest = by (is_ascii_alphabetic b) refl
  where
    by : (t : Bool) → is_ascii_alphabetic b ≡ t → IfSome (read_unquoted (b ∷ rest)) (λ p. begins_zone (b ∷ rest) ≡ true)
    by true e = weaker (read_unquoted (b ∷ rest)) (λ p. Unit {0}) (λ p. begins_zone (b ∷ rest) ≡ true) (any (read_unquoted (b ∷ rest))) (λ p u. rw e refl)
    by false e = rw e tt

name-begins : (text : List ℕ) → IfSome (read_abbreviation text) (λ p. begins_zone text ≡ true)
unfolding read_abbreviation read_unquoted
name-begins [] = tt
name-begins (b ∷ rest) = choose (b == 60) _ _ (λ p. begins_zone (b ∷ rest) ≡ true)
    (λ e. weaker (read_quoted rest) (λ p. Unit {0}) (λ p. begins_zone (b ∷ rest) ≡ true) (any (read_quoted rest)) (λ p u. grind (arith, nat_tests)))
    (λ e. letters-begin b rest)

tz-begins : (text : List ℕ) → IfSome (read_tz text) (λ p. begins_zone text ≡ true)
unfolding read_tz
tz-begins text = bind (read_abbreviation text) _ (λ p. begins_zone text ≡ true) (λ p. begins_zone text ≡ true) (name-begins text) (λ name h. weaker _ (λ p. Unit {0}) (λ p. begins_zone text ≡ true) (any _) (λ p u. h))

-- where a rule is read, its text begins as a zone's
whole-begins : (text : List ℕ) → IfSome (read_whole text) (λ rule. begins_zone text ≡ true)
unfolding read_whole
whole-begins text = bind (read_tz text) _ (λ p. begins_zone text ≡ true) (λ rule. begins_zone text ≡ true) (tz-begins text) (λ p h. weaker _ (λ p. Unit {0}) (λ p. begins_zone text ≡ true) (any _) (λ p u. h))

-- bytes that are no UTF-8 are no rule
pub not_utf8-read_whole : (text : List ℕ) → ¬ (IsUtf8 text) → read_whole text ≡ None
not_utf8-read_whole text bad = by (read_whole text) (whole text)
  where
    by : (o : Option TzText) → IfSome o (λ rule. IsAscii text) → o ≡ None
    by None h = refl
    by (Some rule) h = absurd (bad (IsUtf8-from_ascii text h))

-- a text that begins otherwise is no rule
pub not_begins-read_whole : (text : List ℕ) → begins_zone text ≡ false → read_whole text ≡ None
not_begins-read_whole text bad = by (read_whole text) (whole-begins text)
  where
    by : (o : Option TzText) → IfSome o (λ rule. begins_zone text ≡ true) → o ≡ None
    by None h = refl
    by (Some rule) h = cc
