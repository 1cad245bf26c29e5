-- Where records lead, one after another, whatever each record does.
use Rattle.std.proofs.Common.{◌≡◌, ◌+◌, ◌∙◌, ℕ, zero, suc, List, [], ◌∷◌, drop, take, Option, Some, None, refl, sym, subst, arith}
use Rattle.crew_records.specs.Fields.{Fields}
use Rattle.crew_session.specs.Rows.{TakesRow}
use Rattle.crew_session.specs.Writes.{LeadsBy}

-- the records after the next one
left-more : (n k : ℕ) (all rest : List Fields) (row : Fields) → k ≡ suc n → drop n all ≡ row ∷ rest → drop k all ≡ rest
left-more zero k [] rest row e d = absurd cc
left-more zero k (x ∷ xs) rest row e d =
    let same : xs ≡ rest = cc in
    subst (λ (j : ℕ). drop j (x ∷ xs) ≡ rest) (sym e) same
left-more (suc n) k [] rest row e d = absurd cc
left-more (suc n) k (x ∷ xs) rest row e d =
    subst (λ (j : ℕ). drop j (x ∷ xs) ≡ rest) (sym e) (left-more n (suc n) xs rest row refl d)

module _ {A : Type 0} (Obeys : ℕ → Fields → A → A → List ℕ → Type 0) where
  -- with one record more
  leads-more : (n m k i : ℕ) (all rest : List Fields) (row : Fields) (line : List ℕ) (first a b : A) → k ≡ suc n → i ≡ m + suc n → drop n all ≡ row ∷ rest
      → LeadsBy Obeys m first (take n all) a → Obeys i row a b line → LeadsBy Obeys m first (take k all) b
  leads-more zero m k i [] rest row line first a b e j d h o = absurd cc
  leads-more zero m k i (x ∷ xs) rest row line first a b e j d h o =
      let same : row ≡ x = cc in
      let index : i ≡ m + 1 = omega (arith, j) in
      let by_index : Obeys (m + 1) row a b line = subst (λ (n : ℕ). Obeys n row a b line) index o in
      let by_row : Obeys (m + 1) x a b line = subst (λ (r : Fields). Obeys (m + 1) r a b line) same by_index in
      subst (λ (n : ℕ). LeadsBy Obeys m first (take n (x ∷ xs)) b) (sym e) (b, line, subst (λ (z : A). Obeys (m + 1) x z b line) (sym h) by_row, refl)
  leads-more (suc n) m k i [] rest row line first a b e j d h o = absurd cc
  leads-more (suc n) m k i (x ∷ xs) rest row line first a b e j d h o =
      subst (λ (n : ℕ). LeadsBy Obeys m first (take n (x ∷ xs)) b) (sym e)
      (h.0, h.1, h.2, leads-more n (m + 1) (suc n) i xs rest row line h.0 a b refl (omega (arith, j)) d h.3 o)

  -- the first so many records have led here, and these are left
  abbrev pub HasLed : Option (List Fields) → Option (List Fields) → ℕ → A → A → Type 0
  HasLed None left number first now = Unit {0}
  HasLed (Some all) None number first now = ⊥
  HasLed (Some all) (Some left) number first now = (drop number all ≡ left) × LeadsBy Obeys 0 first (take number all) now

  pub led-start : (all : Option (List Fields)) (a : A) → HasLed all all 0 a a
  led-start None a = tt
  led-start (Some rows) a = (refl, refl)

  -- a record was obeyed
  pub led-more : (all before left : Option (List Fields)) (number : ℕ) (first a b : A) (row : Fields) (line : List ℕ)
      → HasLed all before number first a → TakesRow before left row → Obeys (number + 1) row a b line → HasLed all left (number + 1) first b
  led-more None before left number first a b row line h r o = tt
  led-more (Some all) None left number first a b row line h r o = absurd h
  led-more (Some all) (Some rows) None number first a b row line h r o = absurd r
  led-more (Some all) (Some rows) (Some rest) number first a b row line h r o =
      let here : drop number all ≡ row ∷ rest = h.0 ∙ r in (
        left-more number (number + 1) all rest row (omega arith) here,
        leads-more number 0 (number + 1) (number + 1) all rest row line first a b (omega arith) (omega arith) here h.1 o,
      )
