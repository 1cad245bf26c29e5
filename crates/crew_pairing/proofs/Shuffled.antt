-- Shuffled lists, and numbers that climb.
use Rattle.std.proofs.Common.{◌≡◌, ◌≤◌, ◌<◌, ℕ, suc, List, [], ◌∷◌, false, length, refl, sym, subst, arith, get_or, inl, inr}
use Rattle.std.specs.Prelude.{IsPermutation, IsSorted, ◌==◌}
use Rattle.std.specs.List.{AllByRecursion, IsDistinct}
use Rattle.std.specs.Ordering.{nat_cmp}
use Rattle.std.specs.Cmp.{nat_cmp_total}
use Rattle.std.proofs.lemmas.List.Sorted.{All-permutation, IsPermutation-sym, ranks_by, sorted_far}
use Rattle.std.proofs.lemmas.Map.Keys.{IsDistinct-head, IsDistinct-tail, ge_from_not_lt}
use Rattle.std.proofs.lemmas.List.Elements.{All-from_recursion, recursion_from_All}
use Rattle.crew_resource.specs.Members.{Each, Member}
use Rattle.crew_pairing.proofs.Tree.{Each-member}

-- what stands in a list stands in each shuffle of it
all-of : {X : Type 0} (P : X → Type 0) (xs : List X) → ((x : X) → Member xs x → P x) → AllByRecursion P xs
all-of P [] f = tt
all-of P (x ∷ xs) f = (f x (inl refl), all-of P xs (λ y m. f y (inr m)))

all-at : {X : Type 0} (P : X → Type 0) (xs : List X) (x : X) → AllByRecursion P xs → Member xs x → P x
all-at P [] x h m = absurd m
all-at P (y ∷ xs) x h (inl e) = subst P e h.0
all-at P (y ∷ xs) x h (inr m) = all-at P xs x h.1 m

pub Member-shuffled : {X : Type 0} (xs ys : List X) (x : X) → IsPermutation xs ys → Member xs x → Member ys x
Member-shuffled xs ys x s m =
    all-at (Member ys) xs x (recursion_from_All (Member ys) xs (All-permutation (Member ys) ys xs (IsPermutation-sym xs ys s) (All-from_recursion (Member ys) ys (all-of (Member ys) ys (λ y n. n))))) m

-- numbers each below all later ones
abbrev pub Climb : List ℕ → Type 0
Climb [] = Unit {0}
Climb (n ∷ ns) = Each (λ m. n < m) ns × Climb ns

-- two such lists of the same numbers are one
pub climb-unique : (xs ys : List ℕ) → Climb xs → Climb ys → ((n : ℕ) → Member xs n → Member ys n) → ((n : ℕ) → Member ys n → Member xs n) → xs ≡ ys
climb-unique [] [] a b f g = refl
climb-unique [] (y ∷ ys) a b f g = absurd (g y (inl refl))
climb-unique (x ∷ xs) [] a b f g = absurd (f x (inl refl))
climb-unique (x ∷ xs) (y ∷ ys) a b f g =
    let above = λ (n : ℕ) (m : Member xs n). Each-member (λ k. x < k) xs n a.0 m in
    let over = λ (n : ℕ) (m : Member ys n). Each-member (λ k. y < k) ys n b.0 m in
    let same : x ≡ y = elim (f x (inl refl)) [
      | inl e ↦ sym e
      | inr m ↦ elim (g y (inl refl)) [ inl e ↦ e | inr k ↦ absurd (let p = over x m in let q = above y k in omega (arith, p, q)) ]
    ] in
    let rest : xs ≡ ys = climb-unique xs ys a.1 b.1
    (λ n m. elim (f n (inr m)) [ inl e ↦ absurd (let p = above n m in omega (arith, p, e, same)) | inr k ↦ k ])
    (λ n m. elim (g n (inr m)) [ inl e ↦ absurd (let p = over n m in omega (arith, p, e, same)) | inr k ↦ k ]) in
    λ i. same i ∷ rest i

pub each-of : {X : Type 0} (P : X → Type 0) (xs : List X) → ((k : ℕ) (d : X) → k < length xs → P (get_or xs k d)) → Each P xs
each-of P [] f = tt
each-of P (x ∷ xs) f = (f 0 x (omega arith), each-of P xs (λ k d m. f (suc k) d (omega arith)))

-- no two numbers are equal
abbrev pub AreApart : List ℕ → Type 0
AreApart = IsDistinct ◌==◌

each-above : (n : ℕ) (ns : List ℕ) → Each (λ m. n ≤ m) ns → AllByRecursion (λ m. (n == m) ≡ false) ns → Each (λ m. n < m) ns
each-above n [] h k = tt
each-above n (m ∷ ns) h k = (let p : n ≤ m = h.0 in let q : (n == m) ≡ false = k.0 in grind (arith), each-above n ns h.1 k.1)

climb-apart : (ns : List ℕ) → ((i j d : ℕ) → i ≤ j → j < length ns → get_or ns i d ≤ get_or ns j d) → AreApart ns → Climb ns
climb-apart [] f a = tt
climb-apart (n ∷ ns) f a =
    (each-above n ns (each-of (λ m. n ≤ m) ns (λ k d m. f 0 (suc k) d (omega arith) (omega arith))) (IsDistinct-head ◌==◌ n ns a), climb-apart ns (λ i j d p q. f (suc i) (suc j) d (omega arith) (omega arith)) (IsDistinct-tail ◌==◌ n ns a))

pub climb-sorted : (ns : List ℕ) → IsSorted nat_cmp ns → AreApart ns → Climb ns
climb-sorted ns s a = climb-apart ns (λ i j d p q. ge_from_not_lt (get_or ns j d) (get_or ns i d) (sorted_far _ (ranks_by nat_cmp_total (λ (x : ℕ). x)) ns s i j d p q)) a
