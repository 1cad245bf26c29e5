-- Counting the flights of a list, each once.
use Rattle.std.proofs.Common.{◌≡◌, ◌∙◌, ◌<◌, ◌+◌, ◌≢◌, ℕ, zero, suc, Bool, true, false, cond, ◌&&◌, ◌||◌, List, [], ◌∷◌, refl, sym, ap, arith, length, replicate, take, get_or, set, get_or-set_other, get_or-set_same}
use Rattle.std.specs.Prelude.{nat_eq, nat_lt}
use Rattle.std.specs.List.{list_all, list_any}
use Rattle.std.proofs.lemmas.Bool.Decides.{nat_tests}
use Rattle.std.proofs.lemmas.List.Folds.{list_any_more}

true-left : (a b : Bool) → (a && b) ≡ true → a ≡ true
true-left true b e = refl
true-left false b e = cc

true-right : (a b : Bool) → (a && b) ≡ true → b ≡ true
true-right true b e = e
true-right false b e = cc

pub all-at : (p : ℕ → Bool) (xs : List ℕ) (i : ℕ) → i < length xs → list_all p xs ≡ true → p (get_or xs i 0) ≡ true
all-at p [] i h e = absurd (omega (arith, h))
all-at p (x ∷ xs) zero h e = true-left (p x) (list_all p xs) e
all-at p (x ∷ xs) (suc i) h e = all-at p xs i (omega (arith, h)) (true-right (p x) (list_all p xs) e)

pub is-less : (a b : ℕ) → nat_lt a b ≡ true → a < b
is-less a b e = grind (arith, nat_tests)

same-number : (a b : ℕ) → nat_eq a b ≡ true → a ≡ b
same-number a b e = grind (arith, nat_tests)

other-number : (a b : ℕ) → nat_eq a b ≡ false → b ≢ a
other-number a b e = λ h. let k : nat_eq a a ≡ true = grind (arith, nat_tests) in let j : true ≡ false = sym k ∙ (ap (nat_eq a) (sym h) ∙ e) in (cc)

or-false : (a : Bool) → (a || false) ≡ a
or-false true = refl
or-false false = refl

or-true : (a : Bool) → (a || true) ≡ true
or-true true = refl
or-true false = refl

again-by : (k x : ℕ) (xs : List ℕ) (b : Bool) → nat_eq k x ≡ b → list_any (nat_eq x) xs ≡ true → (list_any (nat_eq k) xs || b) ≡ list_any (nat_eq k) xs
again-by k x xs true e h = or-true (list_any (nat_eq k) xs) ∙ sym (ap (λ n. list_any (nat_eq n) xs) (same-number k x e) ∙ h)
again-by k x xs false e h = or-false (list_any (nat_eq k) xs)

-- a flight that stood there before
pub again : (fs : List ℕ) (i k : ℕ) → i < length fs → list_any (nat_eq (get_or fs i 0)) (take i fs) ≡ true → list_any (nat_eq k) (take (i + 1) fs) ≡ list_any (nat_eq k) (take i fs)
again fs i k h e =
    list_any_more (nat_eq k) fs i 0 h
    ∙ (ap (λ b. list_any (nat_eq k) (take i fs) || b) refl ∙ again-by k (get_or fs i 0) (take i fs) (nat_eq k (get_or fs i 0)) refl e)

first-by : (counts : List ℕ) (k x a : ℕ) (xs : List ℕ) (b : Bool) → nat_eq k x ≡ b → x < length counts → list_any (nat_eq x) xs ≡ false → get_or counts k 0 ≡ a + cond (list_any (nat_eq k) xs) 1 0
    → get_or (set counts x (get_or counts x 0 + 1)) k 0 ≡ a + cond (list_any (nat_eq k) xs || b) 1 0
first-by counts k x a xs true e long new h =
    let same = same-number k x e in
    let none : list_any (nat_eq k) xs ≡ false = ap (λ n. list_any (nat_eq n) xs) same ∙ new in
    let was : get_or counts k 0 ≡ a = h ∙ (ap (λ c. a + cond c 1 0) none ∙ (let z : a + 0 ≡ a = omega arith in z)) in
    let now : get_or (set counts x (get_or counts x 0 + 1)) x 0 ≡ get_or counts x 0 + 1 = rw get_or-set_same refl in
    ap (λ n. get_or (set counts x (get_or counts x 0 + 1)) n 0) same
    ∙ (now ∙ (ap (λ n. get_or counts n 0 + 1) (sym same) ∙ (ap (λ n. n + 1) was ∙ ap (λ c. a + cond c 1 0) (sym (or-true (list_any (nat_eq k) xs))))))
first-by counts k x a xs false e long new h =
    let apart : x ≢ k = other-number k x e in
    let now : get_or (set counts x (get_or counts x 0 + 1)) k 0 ≡ get_or counts k 0 = (let turned : k ≢ x = (λ h. apart (sym h)) in rw get_or-set_other refl) in
    now ∙ (h ∙ ap (λ c. a + cond c 1 0) (sym (or-false (list_any (nat_eq k) xs))))

-- a flight that didn't
pub first : (counts fs : List ℕ) (i k a : ℕ) → i < length fs → get_or fs i 0 < length counts → list_any (nat_eq (get_or fs i 0)) (take i fs) ≡ false
    → get_or counts k 0 ≡ a + cond (list_any (nat_eq k) (take i fs)) 1 0 → get_or (set counts (get_or fs i 0) (get_or counts (get_or fs i 0) 0 + 1)) k 0 ≡ a + cond (list_any (nat_eq k) (take (i + 1) fs)) 1 0
first counts fs i k a h long new was =
    first-by counts k (get_or fs i 0) a (take i fs) (nat_eq k (get_or fs i 0)) refl long new was
    ∙ ap (λ c. a + cond c 1 0) (sym (list_any_more (nat_eq k) fs i 0 h))

-- so it has been counted no more often than at first
pub as-often : (now then : ℕ) (b : Bool) → b ≡ false → now ≡ then + cond b 1 0 → now ≡ then
as-often now then b e h = h ∙ (ap (λ c. then + cond c 1 0) e ∙ (let z : then + 0 ≡ then = omega arith in z))

-- nothing stands in zeros, nor beyond them
pub zero-at : (n k : ℕ) → let none : ℕ = 0 in get_or (replicate n none) k none ≡ none
zero-at zero k = refl
zero-at (suc n) zero = refl
zero-at (suc n) (suc k) = zero-at n k
