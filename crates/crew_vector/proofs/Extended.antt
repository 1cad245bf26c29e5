-- A value, extended along a list, is the value of the whole list.
use Rattle.std.proofs.Common.{◌≡◌, Bool, List, [], ◌∷◌, ◌++◌, Option, Some, None, refl, sym, ◌∙◌, ap, append_assoc}
use Rattle.std.specs.Option.{option_and_then}
use Rattle.crew_resource.specs.Resource.{StepLaws}
use Rattle.crew_vector.specs.Machinery.Along.{extended}

module _ (V I : Type 0) (opens : I → Option V) (extends : V → I → I → Option V) (below : V → V → Bool) (value_of : List I → Option V) (steps : StepLaws opens extends below value_of) where
  pub none-goes-on : (before : List I) (last : I) (others : List I) → value_of (before ++ last ∷ []) ≡ None → value_of (before ++ last ∷ others) ≡ None
  none-goes-on before last [] e = e
  none-goes-on before last (next ∷ others) e =
      let step = steps.extension before last next ∙ ap (option_and_then (λ v. extends v last next)) e in
      ap value_of (sym (append_assoc before (last ∷ []) (next ∷ others)))
      ∙ none-goes-on (before ++ last ∷ []) next others (ap value_of (append_assoc before (last ∷ []) (next ∷ [])) ∙ step)

  by-step : (before : List I) (last next : I) (others : List I) (v : V) → value_of (before ++ last ∷ []) ≡ Some v
      → ((z : V) → value_of ((before ++ last ∷ []) ++ next ∷ []) ≡ Some z → value_of ((before ++ last ∷ []) ++ next ∷ others) ≡ extended extends z next others)
      → (o : Option V) → extends v last next ≡ o → value_of ((before ++ last ∷ []) ++ next ∷ others) ≡ option_and_then (λ z. extended extends z next others) o
  by-step before last next others v e more None is =
      let step = ap value_of (append_assoc before (last ∷ []) (next ∷ [])) ∙ (steps.extension before last next ∙ (ap (option_and_then (λ u. extends u last next)) e ∙ is)) in
      none-goes-on (before ++ last ∷ []) next others step
  by-step before last next others v e more (Some z) is =
      let step = ap value_of (append_assoc before (last ∷ []) (next ∷ [])) ∙ (steps.extension before last next ∙ (ap (option_and_then (λ u. extends u last next)) e ∙ is)) in
      more z step

  pub goes-on : (before : List I) (last : I) (v : V) (others : List I) → value_of (before ++ last ∷ []) ≡ Some v → value_of (before ++ last ∷ others) ≡ extended extends v last others
  goes-on before last v [] e = e
  goes-on before last v (next ∷ others) e =
      ap value_of (sym (append_assoc before (last ∷ []) (next ∷ others)))
      ∙ by-step before last next others v e (λ z f. goes-on (before ++ last ∷ []) next z others f) (extends v last next) refl
