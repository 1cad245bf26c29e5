-- What is found at the front of bytes.
use Rattle.std.proofs.Common.{◌≡◌, ◌∙◌, ◌+◌, ◌<◌, ◌≤◌, ◌++◌, ℕ, true, false, List, [], length, take, drop, sym, ap, arith, le-leb, append-nil, length-append, drop_of_length-le, take_all, if◌then◌else◌}
use lib.Seq.{drop-append-le, take-append-le}
use Rattle.std.proofs.lemmas.Bool.{lt-leb}
use Rattle.std.specs.Io.BufRead.{drop_through}
use Rattle.crew_lines.specs.Bytes.{before}
use Rattle.crew_lines.specs.Finding.{IsFound}
use Rattle.crew_lines.specs.Lines.{All, Beginning, told_of}
use Rattle.crew_lines.proofs.ByteFacts.{after-none, after-there, after-within, before-all, before-front, before-longer, before-shorter, before-there, take-before}

-- what is told of a line by its length
told-whole : (line : List ℕ) → length line ≤ 65536 → told_of line ≡ All line
told-whole line h = ap (λ t. if t then All line else Beginning (take 33 line)) (le-leb (length line) 65536 h)

told-long : (line : List ℕ) → 65536 < length line → told_of line ≡ Beginning (take 33 line)
told-long line h = ap (λ t. if t then All line else Beginning (take 33 line)) (lt-leb (length line) 65536 h)

-- none is behind all
pub drop-whole : (xs : List ℕ) (n : ℕ) → length xs ≤ n → drop n xs ≡ []
drop-whole xs n h = drop_of_length-le xs h

-- without an end, nothing stands behind it
after-last : (xs : List ℕ) → length xs ≤ length (before 10 xs) → drop_through 10 xs ≡ []
after-last xs h = ap (drop_through 10) (sym (append-nil xs)) ∙ after-none 10 xs [] (before-all 10 xs h)

-- a line whose end is there
pub found-whole : (h : List ℕ) (n : ℕ) (xs : List ℕ) → n ≡ length (before 10 h) → n < length h → n ≤ 65536
    → IsFound h (h ++ xs) (record { shown = n; passed = n + 1; is_long = false })
found-whole h n xs is there short =
    let same : before 10 (h ++ xs) ≡ before 10 h = before-there 10 h xs (omega arith) in
    let long : n ≡ length (before 10 (h ++ xs)) = is ∙ sym (ap length same) in
    let more = length-append h xs in
    let after = after-there 10 (h ++ xs) (omega (arith, long, more)) in
    record {
      told = ap told_of same ∙ told-whole (before 10 h) (omega arith) ∙ ap All (before-front 10 h ∙ ap (λ k. take k h) (sym is));
      rest = ap (λ k. drop (k + 1) (h ++ xs)) long ∙ after;
    }

-- what is left where an end was found, and where there is none
pub passed-end : (h : List ℕ) (n : ℕ) (xs : List ℕ) → n ≡ length (before 10 h) → n < length h → drop (n + 1) h ++ xs ≡ drop_through 10 (h ++ xs)
passed-end h n xs is there =
    let same : before 10 (h ++ xs) ≡ before 10 h = before-there 10 h xs (omega arith) in
    let long : n ≡ length (before 10 (h ++ xs)) = is ∙ sym (ap length same) in
    let more = length-append h xs in
    let after = after-there 10 (h ++ xs) (omega (arith, long, more)) in
    sym (drop-append-le (n + 1) h xs (omega arith)) ∙ ap (λ k. drop (k + 1) (h ++ xs)) long ∙ after

pub passed-all : (h : List ℕ) (n : ℕ) (xs : List ℕ) → n ≡ length (before 10 h) → length h ≤ n → drop_through 10 xs ≡ drop_through 10 (h ++ xs)
passed-all h n xs is none = sym (after-none 10 h xs (before-all 10 h (omega arith)))

-- one that is too long
pub found-long : (h xs : List ℕ) → 65536 < length (before 10 h) → IsFound h (h ++ xs) (record { shown = 33; passed = 65537; is_long = true })
found-long h xs long =
    let more = before-longer 10 h xs in
    let fewer = before-shorter 10 h in
    let longer : 65536 < length (before 10 (h ++ xs)) = omega arith in
    record {
      told = told-long (before 10 (h ++ xs)) longer ∙ ap Beginning (take-before 10 33 (h ++ xs) (omega arith) ∙ take-append-le 33 h xs (omega arith));
      rest = after-within 10 65537 (h ++ xs) (omega arith);
    }

-- the last one
pub found-last : (h : List ℕ) (n : ℕ) → n ≡ length h → length h ≤ length (before 10 h) → length h ≤ 65536
    → IsFound h (h ++ []) (record { shown = n; passed = n; is_long = false })
found-last h n all none short =
    let same : before 10 (h ++ []) ≡ h = ap (before 10) (append-nil h) ∙ before-all 10 h none in
    record {
      told = ap told_of same ∙ told-whole h short ∙ ap All (sym (take_all n h (omega arith)));
      rest = ap (drop n) (append-nil h) ∙ drop-whole h n (omega arith) ∙ sym (ap (drop_through 10) (append-nil h) ∙ after-last h none);
    }
