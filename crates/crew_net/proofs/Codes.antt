-- The numbers of places: different for different ones, in their order, and few.
use Rattle.std.proofs.Common.{◌≡◌, ◌≤◌, ◌<◌, ◌*◌, ◌+ℤ◌, Bool, ℕ, nat_lt, ℤ, pos, List, [], ◌∷◌, true, ◌&&◌, length, refl, sym, ap, subst, ◌∙◌, arith}
use Rattle.std.specs.Prelude.{◌==◌}
use Rattle.std.specs.List.{list_all}
use Rattle.std.proofs.lemmas.Bool.{and_parts}
use Rattle.std.proofs.lemmas.Int.{ints}
use Rattle.crew_flights.specs.Codes.{is_code}
use Rattle.crew_net.specs.Machinery.Moments.{IsBounded, IsReal, code_number, moment}

-- a number below 256
abbrev is_byte : ℕ → Bool
is_byte x = nat_lt x 256

byte-within : (x : ℕ) → is_byte x ≡ true → x ≤ 255
byte-within x h = grind (arith)

pub three-bytes : (code : List ℕ) → length code ≡ 3 → (a : ℕ) × (b : ℕ) × (c : ℕ) × (code ≡ a ∷ b ∷ c ∷ [])
three-bytes [] e = absurd (omega arith)
three-bytes (a ∷ []) e = absurd (omega arith)
three-bytes (a ∷ b ∷ []) e = absurd (omega arith)
three-bytes (a ∷ b ∷ c ∷ []) e = (a, b, c, refl)
three-bytes (a ∷ b ∷ c ∷ d ∷ rest) e = absurd (omega arith)

pub has-three : (code : List ℕ) → is_code code ≡ true → length code ≡ 3
has-three code h = let p : (length code == 3) ≡ true = (and_parts (length code == 3) (list_all is_byte code) h).0 in grind (arith)

-- three bytes
pub record AreBytes (a b c : ℕ) : Type 0 where
  pub first : a ≤ 255
  pub second : b ≤ 255
  pub third : c ≤ 255

pub are-bytes : (a b c : ℕ) → is_code (a ∷ b ∷ c ∷ []) ≡ true → AreBytes a b c
are-bytes a b c h =
    let p = and_parts (is_byte a) (is_byte b && (is_byte c && true)) (and_parts true (is_byte a && (is_byte b && (is_byte c && true))) h).1 in
    let q = and_parts (is_byte b) (is_byte c && true) p.1 in
    record { first = byte-within a p.0; second = byte-within b q.0; third = byte-within c (and_parts (is_byte c) true q.1).0 }

same-three : (a b c x y z : ℕ) → AreBytes a b c → AreBytes x y z → code_number (a ∷ b ∷ c ∷ []) ≡ code_number (x ∷ y ∷ z ∷ []) → (a ∷ b ∷ c ∷ []) ≡ (x ∷ y ∷ z ∷ [])
same-three a b c x y z p q e =
    let a1 = p.first in let b1 = p.second in let c1 = p.third in
    let x1 = q.first in let y1 = q.second in let z1 = q.third in
    let first : a ≡ x = omega (arith, a1, b1, c1, x1, y1, z1, e) in
    let second : b ≡ y = omega (arith, first, b1, c1, y1, z1, e) in
    let third : c ≡ z = omega (arith, first, second, e) in
    λ i. first i ∷ second i ∷ third i ∷ []

-- airports with one number are one
pub code-same : (a b : List ℕ) → is_code a ≡ true → is_code b ≡ true → code_number a ≡ code_number b → a ≡ b
code-same a b h k e =
    let p = three-bytes a (has-three a h) in
    let q = three-bytes b (has-three b k) in
    let u = are-bytes p.0 p.1 p.2 (subst (λ (x : List ℕ). is_code x ≡ true) p.3 h) in
    let v = are-bytes q.0 q.1 q.2 (subst (λ (x : List ℕ). is_code x ≡ true) q.3 k) in
    p.3 ∙ (same-three p.0 p.1 p.2 q.0 q.1 q.2 u v (sym (ap code_number p.3) ∙ (e ∙ ap code_number q.3)) ∙ sym q.3)

few-three : (a b c : ℕ) → AreBytes a b c → code_number (a ∷ b ∷ c ∷ []) < 16_777_216
few-three a b c p =
    let a1 = p.first in let b1 = p.second in let c1 = p.third in
    omega (arith, a1, b1, c1)

pub code-few : (a : List ℕ) → is_code a ≡ true → code_number a < 16_777_216
code-few a h =
    let p = three-bytes a (has-three a h) in
    let u = are-bytes p.0 p.1 p.2 (subst (λ (x : List ℕ). is_code x ≡ true) p.3 h) in
    subst (λ (n : ℕ). n < 16_777_216) (sym (ap code_number p.3)) (few-three p.0 p.1 p.2 u)

pub moment-bounded : (a : List ℕ) (t : ℤ) → is_code a ≡ true → IsReal t → IsBounded (moment a t)
moment-bounded a t h r = from (code_number a) (code-few a h)
  where
    from : (n : ℕ) → n < 16_777_216 → IsBounded (pos (n * 4_295_000_000) +ℤ t)
    from n few = let lo = r.least in let hi = r.most in record { least = omega (arith, ints, few, lo); most = omega (arith, ints, few, hi) }

pub real-bounded : (t : ℤ) → IsReal t → IsBounded t
real-bounded t r = let lo = r.least in let hi = r.most in record { least = omega (arith, ints, lo); most = omega (arith, ints, hi) }
