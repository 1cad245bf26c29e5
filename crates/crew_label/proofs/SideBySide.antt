-- Two lists side by side, of which one function makes what another makes of the other.
use Rattle.std.proofs.Common.{◌≡◌, ℕ, ◌+◌, ◌<◌, ◌≤◌, List, [], ◌∷◌, ◌++◌, length, get_or, map, take, refl, sym, ◌∙◌, ap}
use Rattle.std.proofs.lemmas.List.{get_or-map, take_all}
use Rattle.crew_label.proofs.Listed.{mapped_more}

module _ {X Y Z : Type 0} (f : X → Z) (g : Y → Z) (xs : List X) (ys : List Y) where
  pub whole_alike : (i : ℕ) → length xs ≤ i → length ys ≤ i → map f (take i xs) ≡ map g (take i ys) → map f xs ≡ map g ys
  whole_alike i k l h = ap (map f) (sym (take_all i xs k)) ∙ (h ∙ ap (map g) (take_all i ys l))

  module _ (i : ℕ) (x : X) (y : Y) (here : i < length xs) (there : i < length ys) (is : x ≡ get_or xs i x) (at : y ≡ get_or ys i y) where
    pub next_alike : map f (take i xs) ≡ map g (take i ys) → f x ≡ g y → map f (take (i + 1) xs) ≡ map g (take (i + 1) ys)
    next_alike h e =
        sym (mapped_more f xs i x (map f (take i xs)) (map f (take i xs) ++ f x ∷ []) here is refl refl)
        ∙ (ap (λ (zs : List Z). zs ++ f x ∷ []) h
        ∙ (ap (λ (z : Z). map g (take i ys) ++ z ∷ []) e
        ∙ mapped_more g ys i y (map g (take i ys)) (map g (take i ys) ++ g y ∷ []) there at refl refl))

    pub each_alike : map f xs ≡ map g ys → f x ≡ g y
    each_alike h =
        ap f is
        ∙ (sym (get_or-map f xs i x (f x) here)
        ∙ (ap (λ (zs : List Z). get_or zs i (f x)) h
        ∙ (get_or-map g ys i y (f x) there
        ∙ ap g (sym at))))
