-- The value of a list, step by step.
use Rattle.std.specs.Prelude.{◌≡◌, Bool, true, List, [], ◌∷◌, ◌++◌, Option, Some, None}
use Rattle.std.specs.Option.{option_and_then}
use Rattle.std.proofs.Common.{refl}
use Rattle.crew_resource.specs.Resource.{StepLaws}

abbrev pub value_from : {V I : Type 0} → (V → I → I → Option V) → V → I → List I → Option V
value_from extends v last [] = Some v
value_from extends v last (next ∷ others) =
    option_and_then (λ w. value_from extends w next others) (extends v last next)

abbrev pub value_by : {V I : Type 0} → (I → Option V) → (V → I → I → Option V) → List I
    → Option V
value_by opens extends [] = None
value_by opens extends (first ∷ others) =
    option_and_then (λ v. value_from extends v first others) (opens first)

then_itself : {V : Type 0} (o : Option V) → option_and_then (λ v. Some v) o ≡ o
then_itself None = refl
then_itself (Some v) = refl

over : {V : Type 0} (f g h : V → Option V) → ((w : V) → f w ≡ option_and_then h (g w))
    → (o : Option V) → option_and_then f o ≡ option_and_then h (option_and_then g o)
over f g h e None = refl
over f g h e (Some w) = e w

from_push : {V I : Type 0} (extends : V → I → I → Option V) (v : V) (a : I) (before : List I)
    (last next : I) → value_from extends v a (before ++ last ∷ next ∷ [])
    ≡ option_and_then (λ w. extends w last next) (value_from extends v a (before ++ last ∷ []))
from_push extends v a [] last next =
    over (λ w. option_and_then (λ u. Some u) (extends w last next)) (λ w. Some w)
    (λ w. extends w last next) (λ w. then_itself (extends w last next)) (extends v a last)
from_push extends v a (b ∷ before) last next =
    over (λ w. value_from extends w b (before ++ last ∷ next ∷ []))
    (λ w. value_from extends w b (before ++ last ∷ [])) (λ w. extends w last next)
    (λ w. from_push extends w b before last next) (extends v a b)

by_push : {V I : Type 0} (opens : I → Option V) (extends : V → I → I → Option V)
    (before : List I) (last next : I) → value_by opens extends (before ++ last ∷ next ∷ [])
    ≡ option_and_then (λ w. extends w last next) (value_by opens extends (before ++ last ∷ []))
by_push opens extends [] last next =
    over (λ w. option_and_then (λ u. Some u) (extends w last next)) (λ w. Some w)
    (λ w. extends w last next) (λ w. then_itself (extends w last next)) (opens last)
by_push opens extends (b ∷ before) last next =
    over (λ w. value_from extends w b (before ++ last ∷ next ∷ []))
    (λ w. value_from extends w b (before ++ last ∷ [])) (λ w. extends w last next)
    (λ w. from_push extends w b before last next) (opens b)

-- the laws of a step that keeps the order
pub value_steps : {V I : Type 0} (opens : I → Option V) (extends : V → I → I → Option V)
    (below : V → V → Bool)
    → ((a b c : V) (last next : I) → below a b ≡ true → extends b last next ≡ Some c
    → (x : V) × (extends a last next ≡ Some x) × (below x c ≡ true))
    → StepLaws opens extends below (value_by opens extends)
value_steps opens extends below monotone = record {
  monotone = monotone;
  opening = λ first. then_itself (opens first);
  extension = by_push opens extends;
}
