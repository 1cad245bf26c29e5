-- Lists that a value may be carried along.
use Rattle.std.specs.Prelude.{◌≡◌, ℕ, suc, List, [], ◌∷◌, Option, Some}
use Rattle.std.specs.Option.{option_and_then}
use Rattle.crew_pairing.specs.Events.{IsSound, MayFollow, arrival_of, departure_of}
use Rattle.crew_pairing.specs.declared.duty.Duty.{Duty}

-- each later item is sound and may follow the one before
abbrev pub GoesOn : {I X G : Type 0} → (I → Type 0) → (X → G → Type 0) → (I → X) → (I → G) → I
    → List I → Type 0
GoesOn is_sound may_follow arrives leaves last [] = Unit {0}
GoesOn is_sound may_follow arrives leaves last (next ∷ others) =
    is_sound next × may_follow (arrives last) (leaves next)
    × GoesOn is_sound may_follow arrives leaves next others

-- a value, extended along the items after the last one
abbrev pub extended : {V I : Type 0} → (V → I → I → Option V) → V → I → List I → Option V
extended extends v last [] = Some v
extended extends v last (next ∷ others) = option_and_then (λ z. extended extends z next others)
    (extends v last next)

-- there is a most number of items, and sums over one more fit
abbrev pub HasMost : Option ℕ → (ℕ → Type 0) → Type 0
HasMost most fits = (m : ℕ) × (most ≡ Some m) × fits (suc m)

-- each duty's numbers lie in their ranges, and each later one leaves from where the one before
-- arrived, after a rest
abbrev pub IsLine : List Duty → Type 0
IsLine [] = Unit {0}
IsLine (first ∷ others) = IsSound first
    × GoesOn IsSound MayFollow arrival_of departure_of first others
