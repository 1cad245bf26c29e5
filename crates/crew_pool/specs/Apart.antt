-- Vectors of which none is at most another.
use Rattle.std.specs.Prelude.{◌≡◌, Bool, false, List, [], ◌∷◌}

-- neither is at most the other, of the first and each of the rest
abbrev pub ApartFromAll : {V : Type 0} → (V → V → Bool) → V → List V → Type 0
ApartFromAll below a [] = Unit {0}
ApartFromAll below a (b ∷ rest) = ((below a b ≡ false) × (below b a ≡ false))
    × ApartFromAll below a rest

-- none is at most another, by place
abbrev pub AreApart : {V : Type 0} → (V → V → Bool) → List V → Type 0
AreApart below [] = Unit {0}
AreApart below (a ∷ rest) = ApartFromAll below a rest × AreApart below rest
