-- Lists that are gone through from their first item on.
use Rattle.std.proofs.Common.{◌≡◌, ◌∙◌, ◌<◌, ◌+◌, ℕ, zero, suc, List, [], ◌∷◌, ◌++◌, append-nil, append_assoc, length, map, refl, sym, ap, arith, take, get_or}
use Rattle.std.specs.List.{flat_map, range_with_len}
use Rattle.std.proofs.lemmas.List.{map-append}
use Rattle.crew_resource.specs.Members.{Each}

pub flat-append : {X Y : Type 0} (f : X → List Y) (xs ys : List X) → flat_map f (xs ++ ys) ≡ flat_map f xs ++ flat_map f ys
flat-append f [] ys = refl
flat-append f (x ∷ xs) ys = ap (λ l. f x ++ l) (flat-append f xs ys) ∙ sym (append_assoc (f x) (flat_map f xs) (flat_map f ys))

-- an item more
pub take-more : {X : Type 0} (xs : List X) (k : ℕ) (d : X) → k < length xs → take (k + 1) xs ≡ take k xs ++ get_or xs k d ∷ []
take-more [] k d h = absurd (omega (arith, h))
take-more (x ∷ xs) zero d h = refl
take-more {X} (x ∷ xs) (suc k) d h =
    let on : suc k + 1 ≡ suc (k + 1) = omega arith in
    rw on (ap (λ (l : List X). x ∷ l) (take-more xs k d (omega (arith, h))))

pub flat-more : {X Y : Type 0} (f : X → List Y) (xs : List X) (k : ℕ) (d : X) → k < length xs → flat_map f (take (k + 1) xs) ≡ flat_map f (take k xs) ++ f (get_or xs k d)
flat-more f xs k d h = ap (flat_map f) (take-more xs k d h) ∙ (flat-append f (take k xs) (get_or xs k d ∷ []) ∙ ap (λ l. flat_map f (take k xs) ++ l) (append-nil (f (get_or xs k d))))

-- the same of what items stand for
pub flat-more-of : {A X Y : Type 0} (g : A → X) (f : X → List Y) (xs : List A) (k : ℕ) (d : A) → k < length xs → flat_map f (map g (take (k + 1) xs)) ≡ flat_map f (map g (take k xs)) ++ f (g (get_or xs k d))
flat-more-of g f xs k d h =
    let one = get_or xs k d in
    ap (λ l. flat_map f (map g l)) (take-more xs k d h)
    ∙ (ap (flat_map f) (map-append g (take k xs) (one ∷ [])) ∙ (flat-append f (map g (take k xs)) (g one ∷ []) ∙ ap (λ l. flat_map f (map g (take k xs)) ++ l) (append-nil (f (g one)))))

range-more : (from n : ℕ) → range_with_len from (n + 1) ≡ range_with_len from n ++ (from + n) ∷ []
range-more from zero = let e : from + 0 ≡ from = omega arith in rw e refl
range-more from (suc n) =
    let on : suc n + 1 ≡ suc (n + 1) = omega arith in
    let at : from + 1 + n ≡ from + suc n = omega arith in
    rw on (ap (λ l. from ∷ l) (range-more (from + 1) n ∙ ap (λ k. range_with_len (from + 1) n ++ k ∷ []) at))

pub flat-range : {Y : Type 0} (f : ℕ → List Y) (n : ℕ) → flat_map f (range_with_len 0 (n + 1)) ≡ flat_map f (range_with_len 0 n) ++ f n
flat-range f n =
    let at : 0 + n ≡ n = omega arith in
    ap (flat_map f) (range-more 0 n) ∙ (flat-append f (range_with_len 0 n) ((0 + n) ∷ []) ∙ (ap (λ l. flat_map f (range_with_len 0 n) ++ l) (append-nil (f (0 + n))) ∙ ap (λ k. flat_map f (range_with_len 0 n) ++ f k) at))

-- each item
pub each-at : {X : Type 0} (P : X → Type 0) (xs : List X) (k : ℕ) (d : X) → k < length xs → Each P xs → P (get_or xs k d)
each-at P [] k d h e = absurd (omega (arith, h))
each-at P (x ∷ xs) zero d h e = e.0
each-at P (x ∷ xs) (suc k) d h e = each-at P xs k d (omega (arith, h)) e.1

-- a place below the length holds the same whatever stands beyond the end
pub get-same : {X : Type 0} (xs : List X) (k : ℕ) (c d : X) → k < length xs → get_or xs k c ≡ get_or xs k d
get-same [] k c d h = absurd (omega (arith, h))
get-same (x ∷ xs) zero c d h = refl
get-same (x ∷ xs) (suc k) c d h = get-same xs k c d (omega (arith, h))

pub each-push : {X : Type 0} (P : X → Type 0) (xs : List X) (x : X) → Each P xs → P x → Each P (xs ++ x ∷ [])
each-push P [] x h p = (p, tt)
each-push P (y ∷ xs) x h p = (h.0, each-push P xs x h.1 p)
