-- Ranks: the places of duties in order of key.
use Rattle.std.specs.Prelude.{ℕ, suc, Bool, cond, List, [], ◌∷◌}

-- the places, from one on, of the items that pass a test
abbrev pub places_from : {X : Type 0} → ℕ → (X → Bool) → List X → List ℕ
places_from at passes [] = []
places_from at passes (x ∷ xs) =
    cond (passes x) (at ∷ places_from (suc at) passes xs) (places_from (suc at) passes xs)

-- the ranks of the duties that pass a test, rising
abbrev pub ranks_where : {X : Type 0} → (X → Bool) → List X → List ℕ
ranks_where passes xs = places_from 0 passes xs
