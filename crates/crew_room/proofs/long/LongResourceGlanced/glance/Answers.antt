use Rattle.std.proofs.Common.{rules, ◌≡◌, ℤ, List, ◌∷◌, refl, ◌∙◌, ap}
use Rattle.crew_room.proofs.long.LongResourceGlanced.glance.Goals as goal

also : {x y : ℤ} {xs ys : List ℤ} → x ≡ y → xs ≡ ys → (x ∷ xs) ≡ (y ∷ ys)
also {x} {y} {xs} {ys} e f = ap (λ z. z ∷ xs) e ∙ ap (λ z. y ∷ z) f

-- mark by mark
pub returns : goal.returns
returns c =
    also (search rules) (also (search rules) (also (search rules) (also (search rules) refl)))
