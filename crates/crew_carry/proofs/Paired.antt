-- Two lists whose values are the same, place by place.
use Rattle.std.proofs.Common.{◌≡◌, ◌+◌, ◌++◌, ◌∷◌, [], ℕ, zero, suc, List, Some, get_or, length, map, take, sym, ap, ◌∙◌}
use Rattle.std.specs.Prelude.{slice_get}
use Rattle.std.proofs.lemmas.List.{length-map, map-append, take_more}
use Rattle.std.proofs.lemmas.Option.{get_or_from_slice_get, slice_get_within}
use Rattle.crew_carry.proofs.Pushed.{some-none, some-once}

pub mapped-at : {X Z : Type 0} (f : X → Z) (xs : List X) (i : ℕ) (x : X) → slice_get xs i ≡ Some x → slice_get (map f xs) i ≡ Some (f x)
mapped-at f [] i x p = absurd (some-none i x p)
mapped-at f (z ∷ zs) zero x p = ap (λ u. Some (f u)) (some-once z x p)
mapped-at f (z ∷ zs) (suc i) x p = mapped-at f zs i x p

pub grown : {X Z : Type 0} (f : X → Z) (xs : List X) (i : ℕ) (x : X) → slice_get xs i ≡ Some x → map f (take (i + 1) xs) ≡ map f (take i xs) ++ f x ∷ []
grown {X} f xs i x p =
    let within = slice_get_within xs i x p in
    let item : get_or xs i x ≡ x = get_or_from_slice_get xs i x x p in
    ap (map f) (take_more xs i x within ∙ ap (λ (y : X). take i xs ++ y ∷ []) item) ∙ map-append f (take i xs) (x ∷ [])

module _ {X Y Z : Type 0} (f : X → Z) (g : Y → Z) (xs : List X) (ys : List Y) where
  pub pairs-at : (i : ℕ) (x : X) (y : Y) → slice_get xs i ≡ Some x → slice_get ys i ≡ Some y → map f xs ≡ map g ys → f x ≡ g y
  pairs-at i x y p q e = some-once (f x) (g y) (sym (mapped-at f xs i x p) ∙ (ap (λ zs. slice_get zs i) e ∙ mapped-at g ys i y q))

  pub pairs-more : (i : ℕ) (x : X) (y : Y) → slice_get xs i ≡ Some x → slice_get ys i ≡ Some y → map f (take i xs) ≡ map g (take i ys) → f x ≡ g y
      → map f (take (i + 1) xs) ≡ map g (take (i + 1) ys)
  pairs-more i x y p q e s = grown f xs i x p ∙ (ap (λ zs. zs ++ f x ∷ []) e ∙ (ap (λ z. map g (take i ys) ++ z ∷ []) s ∙ sym (grown g ys i y q)))

  pub pairs-long : map f xs ≡ map g ys → length xs ≡ length ys
  pairs-long e = sym (length-map xs f) ∙ (ap length e ∙ length-map ys g)
