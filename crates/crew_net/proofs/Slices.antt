-- What stands at a place of a list, of a part of it, and of what is made from it.
use Rattle.std.proofs.Common.{◌≡◌, ◌∙◌, ◌<◌, ◌≤◌, ◌+◌, ◌-◌, ℕ, zero, suc, true, false, List, [], ◌∷◌, length, take, drop, set, map, get_or, Option, Some, inl, inr, refl, sym, ap, subst, arith, true≢false}
use Rattle.std.specs.Prelude.{nat_eq, slice_get}
use Rattle.std.specs.List.{AllByRecursion, IsDistinct, range_with_len}
use Rattle.std.specs.List.Sorted.{IsPermutation}
use Rattle.std.proofs.lemmas.Map.Keys.{IsDistinct-IsPermutation}
use Rattle.crew_resource.specs.Members.{Each, Member}

pub get-at : {A : Type 0} (xs : List A) (i : ℕ) (a d : A) → slice_get xs i ≡ Some a → get_or xs i d ≡ a
get-at [] i a d h = absurd (let q : ⊥ = (cc) in q)
get-at (x ∷ xs) zero a d h = let q : x ≡ a = (cc) in q
get-at (x ∷ xs) (suc i) a d h = get-at xs i a d h

pub at-within : {A : Type 0} (xs : List A) (i : ℕ) (d : A) → i < length xs → slice_get xs i ≡ Some (get_or xs i d)
at-within [] i d h = absurd (omega (arith, h))
at-within (x ∷ xs) zero d h = refl
at-within (x ∷ xs) (suc i) d h = at-within xs i d (omega (arith, h))

pub map-get : {A B : Type 0} (f : A → B) (xs : List A) (i : ℕ) (a : A) → slice_get xs i ≡ Some a → slice_get (map f xs) i ≡ Some (f a)
map-get f [] i a h = absurd (let q : ⊥ = (cc) in q)
map-get f (x ∷ xs) zero a h = let q : x ≡ a = (cc) in ap (λ z. Some (f z)) q
map-get f (x ∷ xs) (suc i) a h = map-get f xs i a h

pub map-got : {A B : Type 0} (f : A → B) (xs : List A) (i : ℕ) (b : B) → slice_get (map f xs) i ≡ Some b → (a : A) × (slice_get xs i ≡ Some a) × (f a ≡ b)
map-got f [] i b h = absurd (let q : ⊥ = (cc) in q)
map-got f (x ∷ xs) zero b h = let q : f x ≡ b = (cc) in (x, refl, q)
map-got f (x ∷ xs) (suc i) b h = map-got f xs i b h

pub member-got : {A : Type 0} (xs : List A) (i : ℕ) (a : A) → slice_get xs i ≡ Some a → Member xs a
member-got [] i a h = absurd (let q : ⊥ = (cc) in q)
member-got (x ∷ xs) zero a h = let q : x ≡ a = (cc) in inl q
member-got (x ∷ xs) (suc i) a h = inr (member-got xs i a h)

pub member-place : {A : Type 0} (xs : List A) (a : A) → Member xs a → (i : ℕ) × (slice_get xs i ≡ Some a)
member-place [] a m = absurd m
member-place (x ∷ xs) a (inl e) = (0, ap Some e)
member-place (x ∷ xs) a (inr m) = let k = member-place xs a m in (suc k.0, k.1)

-- lists of lists: past the end there is nothing
pub listed-at : {A : Type 0} (xss : List (List A)) (i : ℕ) (a : A) → Member (get_or xss i []) a → (xs : List A) × (slice_get xss i ≡ Some xs) × Member xs a
listed-at [] i a m = absurd m
listed-at (xs ∷ xss) zero a m = (xs, refl, m)
listed-at (xs ∷ xss) (suc i) a m = listed-at xss i a m

pub past-none : {A : Type 0} (xss : List (List A)) (i : ℕ) → length xss ≤ i → get_or xss i [] ≡ []
past-none [] i h = refl
past-none (xs ∷ xss) zero h = absurd (omega (arith, h))
past-none (xs ∷ xss) (suc i) h = past-none xss i (omega (arith, h))

pub map-or : {A B : Type 0} (f : List A → List B) (xss : List (List A)) (i : ℕ) → i < length xss → get_or (map f xss) i [] ≡ f (get_or xss i [])
map-or f [] i h = absurd (omega (arith, h))
map-or f (xs ∷ xss) zero h = refl
map-or f (xs ∷ xss) (suc i) h = map-or f xss i (omega (arith, h))

-- the first of a list, and what stands from a place on
take-in : {A : Type 0} (xs : List A) (n i : ℕ) (a : A) → slice_get xs i ≡ Some a → i < n → Member (take n xs) a
take-in [] n i a h l = absurd (let q : ⊥ = (cc) in q)
take-in (x ∷ xs) zero i a h l = absurd (omega (arith, l))
take-in (x ∷ xs) (suc n) zero a h l = let q : x ≡ a = (cc) in inl q
take-in (x ∷ xs) (suc n) (suc i) a h l = inr (take-in xs n i a h (omega (arith, l)))

take-out : {A : Type 0} (xs : List A) (n : ℕ) (a : A) → Member (take n xs) a → (i : ℕ) × (i < n) × (slice_get xs i ≡ Some a)
take-out [] zero a m = absurd m
take-out [] (suc n) a m = absurd m
take-out (x ∷ xs) zero a m = absurd m
take-out (x ∷ xs) (suc n) a (inl e) = (0, omega arith, ap Some e)
take-out (x ∷ xs) (suc n) a (inr m) = let k = take-out xs n a m in let l = k.1 in (suc k.0, omega (arith, l), k.2)

drop-got : {A : Type 0} (k : ℕ) (xs : List A) (i : ℕ) → slice_get (drop k xs) i ≡ slice_get xs (k + i)
drop-got zero xs i = let e : i ≡ 0 + i = omega arith in ap (slice_get xs) e
drop-got (suc k) [] i = refl
drop-got (suc k) (x ∷ xs) i = drop-got k xs i ∙ (let e : suc (k + i) ≡ suc k + i = omega arith in ap (slice_get (x ∷ xs)) e)

pub part-in : {A : Type 0} (xs : List A) (from end i : ℕ) (a : A) → slice_get xs i ≡ Some a → from ≤ i → i < end → Member (take (end - from) (drop from xs)) a
part-in xs from end i a h l m =
    let same : from + (i - from) ≡ i = omega (arith, l) in
    take-in (drop from xs) (end - from) (i - from) a (drop-got from xs (i - from) ∙ (ap (slice_get xs) same ∙ h)) (omega (arith, l, m))

pub part-out : {A : Type 0} (xs : List A) (from end : ℕ) (a : A) → from ≤ end → Member (take (end - from) (drop from xs)) a → (i : ℕ) × (from ≤ i) × (i < end) × (slice_get xs i ≡ Some a)
part-out xs from end a l m =
    let k = take-out (drop from xs) (end - from) a m in
    let b = k.1 in
    (from + k.0, omega arith, omega (arith, b, l), sym (drop-got from xs k.0) ∙ k.2)

same-number : (x n : ℕ) → x ≡ n → nat_eq x n ≡ true
same-number x n e = grind (arith, e)

-- numbers in order, and in any other, are distinct
apart-from : (i n k : ℕ) → i < k → Each (λ j. nat_eq i j ≡ false) (range_with_len k n)
apart-from i zero k h = tt
apart-from i (suc n) k h = (grind (arith, h), apart-from i n (k + 1) (omega (arith, h)))

AllEach : {X : Type 0} (P : X → Type 0) (xs : List X) → Each P xs → AllByRecursion P xs
AllEach P [] h = tt
AllEach P (x ∷ xs) h = (h.0, AllEach P xs h.1)

EachAll : {X : Type 0} (P : X → Type 0) (xs : List X) → AllByRecursion P xs → (x : X) → Member xs x → P x
EachAll P [] h x m = absurd m
EachAll P (y ∷ ys) h x (inl e) = subst P e h.0
EachAll P (y ∷ ys) h x (inr m) = EachAll P ys h.1 x m

range-distinct : (k n : ℕ) → IsDistinct nat_eq (range_with_len k n)
unfolding IsDistinct
range-distinct k zero = tt
range-distinct k (suc n) = (AllEach _ _ (apart-from k n (k + 1) (omega arith)), range-distinct (k + 1) n)

same-place : (xs : List ℕ) → IsDistinct nat_eq xs → (i j n : ℕ) → slice_get xs i ≡ Some n → slice_get xs j ≡ Some n → i ≡ j
unfolding IsDistinct
same-place [] h i j n p q = absurd (let r : ⊥ = (cc) in r)
same-place (x ∷ xs) h zero zero n p q = refl
same-place (x ∷ xs) h zero (suc j) n p q =
    let r : x ≡ n = (cc) in
    let k = EachAll _ xs h.0 n (member-got xs j n q) in
    absurd (true≢false (sym (same-number x n r) ∙ k))
same-place (x ∷ xs) h (suc i) zero n p q =
    let r : x ≡ n = (cc) in
    let k = EachAll _ xs h.0 n (member-got xs i n p) in
    absurd (true≢false (sym (same-number x n r) ∙ k))
same-place (x ∷ xs) h (suc i) (suc j) n p q = ap suc (same-place xs h.1 i j n p q)

flips : (x y : ℕ) → nat_eq x y ≡ nat_eq y x
flips x y = grind arith

-- in an order of the first numbers each stands in one place, and is one of them
pub permuted-place : (count : ℕ) (places : List ℕ) → IsPermutation (range_with_len 0 count) places → (i j n : ℕ) → slice_get places i ≡ Some n → slice_get places j ≡ Some n → i ≡ j
permuted-place count places all = same-place places (IsDistinct-IsPermutation nat_eq flips (range_with_len 0 count) places all (range-distinct 0 count))

-- what stands at a place of a list that is another
pub at-position : (all xs : List ℕ) → xs ≡ all → (i : ℕ) → i < length xs → (n : ℕ) → n ≡ i → slice_get all n ≡ Some (get_or xs i 0)
at-position all xs same i within n at = ap (slice_get all) at ∙ subst (λ (ys : List ℕ). slice_get ys i ≡ Some (get_or xs i 0)) same (at-within xs i 0 within)

-- an item read from an equal list
pub item-in : {A : Type 0} (xs ys : List A) (i : ℕ) (x : A) → i < length xs → ys ≡ xs → x ≡ get_or ys i x → slice_get xs i ≡ Some x
item-in xs ys i x h same e = at-within xs i x h ∙ ap Some (sym (subst (λ zs. x ≡ get_or zs i x) same e))

pub some-same : {A : Type 0} (o : Option A) (a b : A) → o ≡ Some a → o ≡ Some b → a ≡ b
some-same o a b p q = let e : Some a ≡ Some b = sym p ∙ q in (cc)

pub set-long : {A : Type 0} (xs : List A) (i : ℕ) (y : A) → length (set xs i y) ≡ length xs
set-long [] i y = refl
set-long (x ∷ xs) zero y = refl
set-long (x ∷ xs) (suc i) y = ap suc (set-long xs i y)

pub stands : {A : Type 0} (xs : List A) (i : ℕ) → i < length xs → (a : A) × (slice_get xs i ≡ Some a)
stands [] i h = absurd (omega (arith, h))
stands (a ∷ xs) zero h = (a, refl)
stands (a ∷ xs) (suc i) h = stands xs i (omega (arith, h))

-- what stands within a list is read whatever stands for what lies beyond
pub same-within : {A : Type 0} (xs : List A) (i : ℕ) (a b : A) → i < length xs → get_or xs i a ≡ get_or xs i b
same-within [] i a b h = absurd (omega (arith, h))
same-within (x ∷ xs) zero a b h = refl
same-within (x ∷ xs) (suc i) a b h = same-within xs i a b (omega (arith, h))
