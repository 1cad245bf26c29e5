-- A sum along a list, with a cap that no beginning of the list may pass.
use Rattle.std.specs.Prelude.{ℕ, Bool, true, cond, List, [], ◌∷◌, map, Option, Some, None, ℤ, pos, ◌+ℤ◌, neg_ℤ, ◌≤ℤ◌, int_le}
use Rattle.std.specs.List.{list_all}

-- a cap may be reached
abbrev pub is_within : Option ℤ → ℤ → Bool
is_within None total = true
is_within (Some cap) total = int_le total cap

-- the total, where the cap allows it
abbrev pub capped : Option ℤ → ℤ → Option ℤ
capped cap total = cond (is_within cap total) (Some total) None

-- what an item adds that is added in stages: the first of a list, over what stands before it
abbrev pub first_adds : {I G : Type 0} → (I → G) → (G → ℤ) → (I → ℤ) → I → ℤ
first_adds leaves idle own item = idle (leaves item) +ℤ own item

-- and one after another, with the wait between them
abbrev pub next_adds : {I X G : Type 0} → (I → X) → (I → G) → (X → G → ℤ) → (I → ℤ) → I → I → ℤ
next_adds arrives leaves wait own last item = wait (arrives last) (leaves item) +ℤ own item

-- what the items after the first add
abbrev pub rises : {I : Type 0} → (I → I → ℤ) → I → List I → ℤ
rises next last [] = pos 0
rises next last (x ∷ xs) = next last x +ℤ rises next x xs

-- the sum over the whole list
abbrev pub sum_of : {I : Type 0} → (I → ℤ) → (I → I → ℤ) → List I → ℤ
sum_of first next [] = pos 0
sum_of first next (x ∷ xs) = first x +ℤ rises next x xs

-- each beginning of at least one item, the shortest first
abbrev pub beginnings : {I : Type 0} → List I → List (List I)
beginnings [] = []
beginnings (x ∷ xs) = (x ∷ []) ∷ map (λ b. x ∷ b) (beginnings xs)

-- the sum over the whole list, and none where it, or a beginning of the list, passes the cap
abbrev pub capped_sum : {I : Type 0} → (I → ℤ) → (I → I → ℤ) → Option ℤ → List I → Option ℤ
capped_sum first next cap [] = None
capped_sum first next cap (x ∷ xs) = cond
    (list_all (λ b. is_within cap (sum_of first next b)) (beginnings (x ∷ xs)))
    (Some (sum_of first next (x ∷ xs))) None

-- what follows the first item adds at least 0
abbrev pub NeverFalls : {I : Type 0} → (I → I → ℤ) → I → List I → Type 0
NeverFalls next x [] = Unit {0}
NeverFalls next x (y ∷ ys) = (pos 0 ≤ℤ next x y) × NeverFalls next y ys

-- neither above the number nor below its negative
pub record LiesWithin (reach : ℕ) (z : ℤ) : Type 0 where
  pub least : neg_ℤ (pos reach) ≤ℤ z
  pub most : z ≤ℤ pos reach
