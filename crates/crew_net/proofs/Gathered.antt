-- Lists of parts, of which the parts are put in another order.
use Rattle.std.proofs.Common.{◌≡◌, ◌≤◌, ◌<◌, ◌+◌, ◌-◌, ◌∙◌, ℕ, zero, suc, List, [], ◌∷◌, ◌++◌, IsPermutation, append-nil, append_assoc, ap, arith, drop, get_or, length, refl, set, subst, sym, take}
use Rattle.std.specs.Prelude.{flat_map}
use Rattle.std.specs.List.{swap}
use Rattle.std.proofs.lemmas.List.Sorted.{IsPermutation-append_comm, IsPermutation-append_left, IsPermutation-append_right, IsPermutation-keeps, IsPermutation-refl, IsPermutation-sym, IsPermutation-trans}
use Rattle.crew_pairing.proofs.Shuffled.{Member-shuffled}
use Rattle.crew_net.specs.Machinery.Runs.{IsRunOf, run_keys}
use Rattle.crew_net.specs.declared.runs.Run.{Run}
use Rattle.crew_pairing.proofs.Tree.{Each-member, Each-push}
use Rattle.crew_resource.proofs.Members.{Member-get}
use Rattle.crew_resource.specs.Members.{Each}

module _ {A B : Type 0} (f : A → List B) where
  abbrev shuffled : List A → List A → Type 0
  shuffled xs ys = IsPermutation (flat_map f xs) (flat_map f ys)

  turn : (x y : A) (xs : List A) → shuffled (x ∷ y ∷ xs) (y ∷ x ∷ xs)
  turn x y xs = rw (← append_assoc (f x), ← append_assoc (f y)) (IsPermutation-append_left (flat_map f xs) _ _ (IsPermutation-append_comm (f x) (f y)))

  under : (x : A) (xs ys : List A) → shuffled xs ys → shuffled (x ∷ xs) (x ∷ ys)
  under x xs ys h = IsPermutation-append_right (f x) _ _ h

  to-head : (l : List A) (j : ℕ) (x d : A) → j < length l → shuffled (x ∷ l) (get_or l j d ∷ set l j x)
  to-head [] j x d h = absurd (omega (arith, h))
  to-head (y ∷ l) zero x d h = turn x y l
  to-head (y ∷ l) (suc j) x d h =
      IsPermutation-trans _ _ _ (turn x y l) (IsPermutation-trans _ _ _ (under y (x ∷ l) (get_or l j d ∷ set l j x) (to-head l j x d (omega (arith, h)))) (turn y (get_or l j d) (set l j x)))

  exchanged : (l : List A) (i j : ℕ) (d : A) → i < length l → j < length l → shuffled l (set (set l i (get_or l j d)) j (get_or l i d))
  exchanged [] i j d p q = absurd (omega (arith, p))
  exchanged (x ∷ l) zero zero d p q = IsPermutation-refl (flat_map f (x ∷ l))
  exchanged (x ∷ l) zero (suc j) d p q = to-head l j x d (omega (arith, q))
  exchanged (x ∷ l) (suc i) zero d p q = to-head l i x d (omega (arith, p))
  exchanged (x ∷ l) (suc i) (suc j) d p q = under x l (set (set l i (get_or l j d)) j (get_or l i d)) (exchanged l i j d (omega (arith, p)) (omega (arith, q)))

  swapped : (l : List A) (i j : ℕ) → i < length l → j < length l → shuffled l (swap l i j)
  swapped [] i j p q = absurd (omega (arith, p))
  swapped (x ∷ l) i j p q = exchanged (x ∷ l) i j x p q

  pub parts-shuffled : (xs ys : List A) → IsPermutation xs ys → IsPermutation (flat_map f xs) (flat_map f ys)
  parts-shuffled xs = IsPermutation-keeps xs (shuffled xs) (IsPermutation-refl (flat_map f xs)) (λ l i j p q h. IsPermutation-trans _ _ _ h (swapped l i j p q))

-- one part more
pub part-more : {A B : Type 0} (f : A → List B) (xs : List A) (x : A) (part : List B) → f x ≡ part → flat_map f (xs ++ x ∷ []) ≡ flat_map f xs ++ part
part-more f [] x part e = append-nil (f x) ∙ e
part-more f (y ∷ xs) x part e = ap (λ l. f y ++ l) (part-more f xs x part e) ∙ sym (append_assoc (f y) (flat_map f xs) part)

pub parts-so-far : {A B : Type 0} (f : A → List B) (xs : List A) (k : ℕ) (d : A) → k < length xs → flat_map f (take (k + 1) xs) ≡ flat_map f (take k xs) ++ f (get_or xs k d)
parts-so-far f [] k d h = absurd (omega (arith, h))
parts-so-far f (x ∷ xs) zero d h = part-more f [] x (f x) refl
parts-so-far f (x ∷ xs) (suc k) d h =
    let on : suc k + 1 ≡ suc (k + 1) = omega arith in
    rw on (ap (λ l. f x ++ l) (parts-so-far f xs k d (omega (arith, h))) ∙ sym (append_assoc (f x) (flat_map f (take k xs)) (f (get_or xs k d))))

-- keys up to a place, and those from there up to another
pub take-on : {X : Type 0} (from end : ℕ) (xs : List X) → from ≤ end → take from xs ++ take (end - from) (drop from xs) ≡ take end xs
take-on zero end xs h = ap (λ (n : ℕ). take n xs) {x = end - 0} (omega arith)
take-on (suc from) zero xs h = absurd (omega (arith, h))
take-on {X} (suc from) (suc end) [] h = ends (suc end - suc from)
  where
    ends : (n : ℕ) → take {A = X} n [] ≡ []
    ends zero = refl
    ends (suc n) = refl
take-on {X} (suc from) (suc end) (x ∷ xs) h =
    let less : suc end - suc from ≡ end - from = omega arith in
    ap (λ (l : List X). x ∷ l) (ap (λ (n : ℕ). take from xs ++ take n (drop from xs)) less ∙ take-on from end xs (omega (arith, h)))

pub run-within : (count : ℕ) (runs sorted : List Run) (k : ℕ) (d : Run) → Each (IsRunOf count) runs → IsPermutation runs sorted → k < length sorted → IsRunOf count (get_or sorted k d)
run-within count runs sorted k d h perm within =
    Each-member (IsRunOf count) runs (get_or sorted k d) h (Member-shuffled sorted runs (get_or sorted k d) (IsPermutation-sym runs sorted perm) (Member-get sorted k d within))

-- one run more
pub run-more : (keys : List ℕ) (runs : List Run) (run : Run) (more : List Run) (from place : ℕ) → more ≡ runs ++ run ∷ [] → run.from ≡ from → run.end ≡ place → from ≤ place → place ≤ length keys
    → flat_map (run_keys keys) runs ≡ take from keys → Each (IsRunOf (length keys)) runs → (flat_map (run_keys keys) more ≡ take place keys) × Each (IsRunOf (length keys)) more
run-more keys runs run more from place e f g a b so h = (
  ap (flat_map (run_keys keys)) e ∙ (part-more (run_keys keys) runs run (take (place - from) (drop from keys)) (λ i. take (g i - f i) (drop (f i) keys))
      ∙ (ap (λ (l : List ℕ). l ++ take (place - from) (drop from keys)) so ∙ take-on from place keys a)),
  subst (Each (IsRunOf (length keys))) (sym e) (Each-push (IsRunOf (length keys)) runs run h (record { ordered = omega (arith, f, g, a); within = omega (arith, g, b) })),
)

pub take-whole : {X : Type 0} (n : ℕ) (xs : List X) → length xs ≤ n → take n xs ≡ xs
take-whole zero [] h = refl
take-whole zero (x ∷ xs) h = absurd (omega (arith, h))
take-whole (suc n) [] h = refl
take-whole (suc n) (x ∷ xs) h = ap (λ l. x ∷ l) (take-whole n xs (omega (arith, h)))
