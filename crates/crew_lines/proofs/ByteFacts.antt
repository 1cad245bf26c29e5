-- What stands before a byte, and after it.
use Rattle.std.proofs.Common.{◌≡◌, ◌∙◌, ◌+◌, ◌<◌, ◌≤◌, ◌==◌, ℕ, zero, suc, Bool, true, false, List, [], ◌∷◌, ◌++◌, Some, None, length, length-take-le, take_all, take, drop, refl, sym, ap, arith, if◌then◌else◌, slice_index}
use mathlib.Core.List.{nil≢cons}
use Rattle.std.specs.Io.BufRead.{drop_through}
use Rattle.memchr.specs.Find.{IsFirstByte, is_byte}
use Rattle.crew_lines.specs.Bytes.{before}

-- the byte is there: what comes behind changes nothing of what stands before it
pub before-there : (b : ℕ) (p q : List ℕ) → length (before b p) < length p → before b (p ++ q) ≡ before b p
before-there b [] q h = absurd (omega arith)
before-there b (x ∷ p) q h = by (x == b) h (before-there b p q)
  where
    by : (t : Bool) → length (if t then [] else x ∷ before b p) < length (x ∷ p) → (length (before b p) < length p → before b (p ++ q) ≡ before b p) → (if t then [] else x ∷ before b (p ++ q)) ≡ (if t then [] else x ∷ before b p)
    by true h more = refl
    by false h more = ap (λ l. x ∷ l) (more (omega arith))

-- what stands after the byte
after-next : (b : ℕ) (xs : List ℕ) → length (before b xs) < length xs → drop (suc (length (before b xs))) xs ≡ drop_through b xs
after-next b [] h = absurd (omega arith)
after-next b (x ∷ xs) h = by (x == b) h (after-next b xs)
  where
    by : (t : Bool) → length (if t then [] else x ∷ before b xs) < length (x ∷ xs) → (length (before b xs) < length xs → drop (suc (length (before b xs))) xs ≡ drop_through b xs) → drop (suc (length (if t then [] else x ∷ before b xs))) (x ∷ xs) ≡ (if t then xs else drop_through b xs)
    by true h more = refl
    by false h more = more (omega arith)

pub after-there : (b : ℕ) (xs : List ℕ) → length (before b xs) < length xs → drop (length (before b xs) + 1) xs ≡ drop_through b xs
after-there b xs h =
    let next : length (before b xs) + 1 ≡ suc (length (before b xs)) = omega arith in
    ap (λ n. drop n xs) next ∙ after-next b xs h

-- the first of what stands before it
pub take-before : (b n : ℕ) (xs : List ℕ) → n ≤ length (before b xs) → take n (before b xs) ≡ take n xs
take-before b zero xs h = refl
take-before b (suc n) [] h = refl
take-before b (suc n) (x ∷ xs) h = by (x == b) h (take-before b n xs)
  where
    by : (t : Bool) → suc n ≤ length (if t then [] else x ∷ before b xs) → (n ≤ length (before b xs) → take n (before b xs) ≡ take n xs) → take (suc n) (if t then [] else x ∷ before b xs) ≡ x ∷ take n xs
    by true h more = absurd (omega arith)
    by false h more = ap (λ l. x ∷ l) (more (omega arith))

-- what stands before it is the beginning
pub before-front : (b : ℕ) (xs : List ℕ) → before b xs ≡ take (length (before b xs)) xs
before-front b xs = sym (take_all (length (before b xs)) (before b xs) (omega arith)) ∙ take-before b (length (before b xs)) xs (omega arith)

-- .. or all, where it isn't shorter
pub before-all : (b : ℕ) (xs : List ℕ) → length xs ≤ length (before b xs) → before b xs ≡ xs
before-all b xs h = before-front b xs ∙ take_all (length (before b xs)) xs h

pub before-shorter : (b : ℕ) (xs : List ℕ) → length (before b xs) ≤ length xs
before-shorter b [] = omega arith
before-shorter b (x ∷ xs) = by (x == b) (before-shorter b xs)
  where
    by : (t : Bool) → length (before b xs) ≤ length xs → length (if t then [] else x ∷ before b xs) ≤ length (x ∷ xs)
    by true more = omega arith
    by false more = omega arith

-- the byte isn't there
pub before-none : (b : ℕ) (p q : List ℕ) → before b p ≡ p → before b (p ++ q) ≡ p ++ before b q
before-none b [] q h = refl
before-none b (x ∷ p) q h = by (x == b) h (before-none b p q)
  where
    by : (t : Bool) → (if t then [] else x ∷ before b p) ≡ x ∷ p → (before b p ≡ p → before b (p ++ q) ≡ p ++ before b q) → (if t then [] else x ∷ before b (p ++ q)) ≡ x ∷ (p ++ before b q)
    by true h more = absurd (nil≢cons h)
    by false h more = let same : before b p ≡ p = cc h in ap (λ l. x ∷ l) (more same)

pub after-none : (b : ℕ) (p q : List ℕ) → before b p ≡ p → drop_through b (p ++ q) ≡ drop_through b q
after-none b [] q h = refl
after-none b (x ∷ p) q h = by (x == b) h (after-none b p q)
  where
    by : (t : Bool) → (if t then [] else x ∷ before b p) ≡ x ∷ p → (before b p ≡ p → drop_through b (p ++ q) ≡ drop_through b q) → (if t then p ++ q else drop_through b (p ++ q)) ≡ drop_through b q
    by true h more = absurd (nil≢cons h)
    by false h more = let same : before b p ≡ p = cc h in more same

-- with bytes behind, no fewer stand before it
pub before-longer : (b : ℕ) (p q : List ℕ) → length (before b p) ≤ length (before b (p ++ q))
before-longer b [] q = omega arith
before-longer b (x ∷ p) q = by (x == b) (before-longer b p q)
  where
    by : (t : Bool) → length (before b p) ≤ length (before b (p ++ q)) → length (if t then [] else x ∷ before b p) ≤ length (if t then [] else x ∷ before b (p ++ q))
    by true more = omega arith
    by false more = omega arith

-- what stands before it in the beginning is the beginning of what stands before it
pub before-take : (b n : ℕ) (xs : List ℕ) → before b (take n xs) ≡ take n (before b xs)
before-take b zero xs = refl
before-take b (suc n) [] = refl
before-take b (suc n) (x ∷ xs) = by (x == b) (before-take b n xs)
  where
    by : (t : Bool) → before b (take n xs) ≡ take n (before b xs) → (if t then [] else x ∷ before b (take n xs)) ≡ take (suc n) (if t then [] else x ∷ before b xs)
    by true more = refl
    by false more = ap (λ l. x ∷ l) more

-- what is left when some of them are passed
pub after-within : (b n : ℕ) (xs : List ℕ) → n ≤ length (before b xs) → drop_through b (drop n xs) ≡ drop_through b xs
after-within b zero xs h = refl
after-within b (suc n) [] h = refl
after-within b (suc n) (x ∷ xs) h = by (x == b) h (after-within b n xs)
  where
    by : (t : Bool) → suc n ≤ length (if t then [] else x ∷ before b xs) → (n ≤ length (before b xs) → drop_through b (drop n xs) ≡ drop_through b xs) → drop_through b (drop n xs) ≡ (if t then xs else drop_through b xs)
    by true h more = absurd (omega arith)
    by false h more = more (omega arith)

-- a place where the byte stands, with none before
before-at : (b k : ℕ) (xs : List ℕ) → k < length xs → (slice_index xs k == b) ≡ true → ((j : ℕ) → j < k → ¬ ((slice_index xs j == b) ≡ true)) → before b xs ≡ take k xs
before-at b k [] h here none = absurd (omega arith)
before-at b zero (x ∷ xs) h here none = ap (λ t. if t then [] else x ∷ before b xs) here
before-at b (suc k) (x ∷ xs) h here none = by (x == b) (none 0 (omega arith)) (before-at b k xs (omega arith) here (λ j lt. none (suc j) (omega arith)))
  where
    by : (t : Bool) → ¬ (t ≡ true) → before b xs ≡ take k xs → (if t then [] else x ∷ before b xs) ≡ x ∷ take k xs
    by true n more = absurd (n refl)
    by false n more = ap (λ l. x ∷ l) more

-- no place where it stands
before-nowhere : (b : ℕ) (xs : List ℕ) → ((j : ℕ) → j < length xs → ¬ ((slice_index xs j == b) ≡ true)) → before b xs ≡ xs
before-nowhere b [] none = refl
before-nowhere b (x ∷ xs) none = by (x == b) (none 0 (omega arith)) (before-nowhere b xs (λ j lt. none (suc j) (omega arith)))
  where
    by : (t : Bool) → ¬ (t ≡ true) → before b xs ≡ xs → (if t then [] else x ∷ before b xs) ≡ x ∷ xs
    by true n more = absurd (n refl)
    by false n more = ap (λ l. x ∷ l) more

-- what a search of the byte answers
pub count-found : (b k : ℕ) (xs : List ℕ) → IsFirstByte (is_byte b) xs (Some k) → k ≡ length (before b xs)
count-found b k xs h = sym (ap length (before-at b k xs h.0.high h.1 (λ j lt. h.0.before j (omega arith) lt)) ∙ length-take-le k xs (omega (arith, h.0.high)))

pub count-all : (b : ℕ) (xs : List ℕ) → IsFirstByte (is_byte b) xs None → length xs ≡ length (before b xs)
count-all b xs h = sym (ap length (before-nowhere b xs (λ j lt. h j (omega arith) lt)))
