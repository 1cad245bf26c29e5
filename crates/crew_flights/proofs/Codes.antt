-- Codes of airports and places between flights.
use Rattle.std.proofs.Common.{◌≡◌, ◌+◌, ◌/◌, ◌%◌, ℕ, Bool, true, false, List, [], ◌∷◌, length, refl, ap, ◌∙◌, arith}
use Rattle.std.specs.Prelude.{◌&&◌, ◌==◌, nat_lt}
use Rattle.std.specs.List.{list_all}
use Rattle.crew_flights.specs.Codes.{is_airport, is_code, is_letter, own_place}

both : (a b : Bool) → (a && b) ≡ true → (a ≡ true) × (b ≡ true)
both true b h = (refl, h)
both false b h = absurd (cc)

letter_is_byte : (n : ℕ) → is_letter n ≡ true → nat_lt n 256 ≡ true
letter_is_byte n h = grind arith

letters_are_bytes : (bytes : List ℕ) → list_all is_letter bytes ≡ true → list_all (λ byte. nat_lt byte 256) bytes ≡ true
letters_are_bytes [] h = refl
letters_are_bytes (b ∷ bytes) h =
    let p = both (is_letter b) (list_all is_letter bytes) h in
    ap (λ x. x && list_all (λ byte. nat_lt byte 256) bytes) (letter_is_byte b p.0) ∙ letters_are_bytes bytes p.1

-- the code of an airport is one of a place
pub airport_is_code : (bytes : List ℕ) → is_airport bytes ≡ true → is_code bytes ≡ true
airport_is_code bytes h =
    let p = both (length bytes == 3) (list_all is_letter bytes) h in
    ap (λ x. x && list_all (λ byte. nat_lt byte 256) bytes) p.0 ∙ letters_are_bytes bytes p.1

not_letter : (n : ℕ) → is_letter (128 + n) ≡ false
not_letter n = grind arith

-- no airport has the place between two flights
pub own_place_is_no_airport : (number : ℕ) → is_airport (own_place number) ≡ false
own_place_is_no_airport number = ap (λ x. x && (is_letter (128 + (number / 128) % 128) && (is_letter (128 + number % 128) && true))) (not_letter (number / 16_384))

same_head : {X : Type 0} (x y : X) (xs ys : List X) → x ∷ xs ≡ y ∷ ys → (x ≡ y) × (xs ≡ ys)
same_head x y xs ys e = (cc, cc)

same_digits : (a b : ℕ) → 128 + a / 16_384 ≡ 128 + b / 16_384 → 128 + (a / 128) % 128 ≡ 128 + (b / 128) % 128 → 128 + a % 128 ≡ 128 + b % 128 → a ≡ b
same_digits a b h m l = omega (arith, h, m, l)

-- two flights have places apart
pub own_places_apart : (a b : ℕ) → own_place a ≡ own_place b → a ≡ b
own_places_apart a b e =
    let h = same_head _ _ _ _ e in
    let m = same_head _ _ _ _ h.1 in
    let l = same_head _ _ _ _ m.1 in
    same_digits a b h.0 m.0 l.0
