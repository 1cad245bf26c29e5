-- A list that is filled in place, step by step.
use Rattle.std.proofs.Common.{◌≡◌, ◌≤◌, ◌<◌, ◌+◌, ℕ, zero, suc, List, [], ◌∷◌, ◌++◌, length, refl, sym, ap, ◌∙◌, arith, take, append_assoc, append-nil, length-append}
use Rattle.std.proofs.Math.ListN.{set}
use Rattle.std.proofs.lemmas.List.{take_all}
use Rattle.crew_duty.specs.Machinery.Filling.{Goes}

-- nothing more
pub goes-none : {X : Type 0} (at : ℕ) (before : List X) → at ≤ 200_001 → Goes at [] before at before
goes-none at before h =
    let same : at + 0 ≡ at = omega arith in
    (omega (arith, h), (refl, λ r. rw same (sym (append-nil (take at before)))))

-- these, and then those
pub goes-more : {X : Type 0} (at : ℕ) (xs ys : List X) (a : List X) (n : ℕ) (b : List X) (m : ℕ) (c : List X) → length a ≤ 200_000 → Goes at xs a n b → Goes n ys b m c → Goes at (xs ++ ys) a m c
goes-more {X} at xs ys a n b m c few (e, (f, g)) (h, (k, l)) =
    let long = length-append xs ys in
    (omega (arith, e, h, long), (k ∙ f, both))
  where
    both : at + length (xs ++ ys) ≤ length a → take (at + length (xs ++ ys)) c ≡ take at a ++ (xs ++ ys)
    both r =
        let long = length-append xs ys in
        let here : n ≡ at + length xs = omega (arith, e, long, r, few) in
        let there : at + length (xs ++ ys) ≡ n + length ys = omega (arith, here, long) in
        let first : take n b ≡ take at a ++ xs = rw here (g (omega (arith, long, r))) in
        let second : take (n + length ys) c ≡ take n b ++ ys = l (omega (arith, here, long, r, f)) in
        ap (λ (i : ℕ). take i c) there ∙ second ∙ ap (λ (t : List X). t ++ ys) first ∙ append_assoc (take at a) xs ys

-- more than may be listed stay so
pub goes-full : {X : Type 0} (at : ℕ) (xs : List X) (before : List X) → length before ≤ 200_000 → 200_000 < at → at ≤ 200_001 → Goes at xs before at before
goes-full at xs before few more most = (omega (arith, more, most), (refl, λ r. absurd (omega (arith, few, more, r))))

-- one more, where there is room and where there is none
pub take-set : {X : Type 0} (xs : List X) (i : ℕ) (x : X) → i < length xs → take (i + 1) (set xs i x) ≡ take i xs ++ x ∷ []
take-set [] i x h = absurd (omega (arith, h))
take-set (y ∷ xs) zero x h = refl
take-set {X} (y ∷ xs) (suc i) x h =
    let on : suc i + 1 ≡ suc (i + 1) = omega arith in
    rw on (ap (λ (l : List X). y ∷ l) (take-set xs i x (omega (arith, h))))

pub length-set : {X : Type 0} (xs : List X) (i : ℕ) (x : X) → length (set xs i x) ≡ length xs
length-set [] i x = refl
length-set (y ∷ xs) zero x = refl
length-set (y ∷ xs) (suc i) x = ap suc (length-set xs i x)

pub goes-one : {X : Type 0} (at : ℕ) (x : X) (before after : List X) → at ≤ 200_000 → after ≡ set before at x → Goes at (x ∷ []) before (at + 1) after
goes-one at x before after few e = (omega (arith, few), (ap length e ∙ length-set before at x, λ r. rw e (take-set before at x (omega (arith, r)))))

pub goes-past : {X : Type 0} (at : ℕ) (x : X) (before : List X) → at ≤ 200_000 → length before ≤ at → Goes at (x ∷ []) before (at + 1) before
goes-past at x before few h = (omega (arith, few), (refl, λ r. absurd (omega (arith, h, r))))

-- the whole list is filled
pub goes-whole : {X : Type 0} (xs before : List X) (n : ℕ) (after : List X) → length before ≡ length xs → Goes 0 xs before n after → after ≡ xs
goes-whole xs before n after e (c, (l, f)) =
    let all : take (0 + length xs) after ≡ after = take_all (0 + length xs) after (omega (arith, l, e)) in
    sym all ∙ f (omega (arith, e))
