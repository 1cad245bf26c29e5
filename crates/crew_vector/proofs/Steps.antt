-- The vector as a resource over duties: its start, its step, and their laws.
use Rattle.std.proofs.Common.{◌≡◌, List, [], ◌∷◌, ◌++◌, length, Option, Some, ℤ, pos, sym, ◌∙◌, ap}
use Rattle.std.specs.Option.{option_and_then, option_map}
use Rattle.crew_pairing.specs.declared.duty.Duty.{Duty}
use Rattle.crew_resource.proofs.Order.{IsOrder}
use Rattle.crew_resource.specs.Resource.{StepLaws}
use Rattle.crew_rules.specs.declared.settings.Settings.{Settings}
use Rattle.crew_vector.specs.Dominance.{is_at_most}
use Rattle.crew_vector.specs.Machinery.Named.{named_order}
use Rattle.crew_vector.specs.Machinery.Numbers.{named, numbers_of}
use Rattle.crew_vector.specs.Machinery.VectorResources.{vector_resource}
use Rattle.crew_vector.specs.Values.{value_of}
use Rattle.crew_vector.specs.Machinery.Sides.{opened, stepped}
use Rattle.crew_vector.specs.Machinery.VectorLaws.{vector_steps}
use Rattle.crew_pairing.specs.declared.vector.PairingVector.{PairingVector}
use Rattle.crew_vector.proofs.Fitting.{value-out}
use Rattle.crew_vector.proofs.Valued.{composed-value}

abbrev pub opens : Settings → ℤ → Duty → Option PairingVector
opens s b d = option_map named (opened (vector_resource s b) d)

abbrev pub extends : Settings → PairingVector → Duty → Duty → Option PairingVector
extends s v e d = option_map named (stepped (vector_resource s (pos 0)) (numbers_of v) e d)

pub steps : (s : Settings) (b : ℤ) → StepLaws (opens s b) (extends s) is_at_most (value_of s b)
steps s b =
    let c = vector_steps (vector_resource s b) in
    record {
      monotone = c.monotone;
      opening = λ d. sym (composed-value s b (d ∷ [])) ∙ c.opening d;
      extension = λ before last next.
          sym (composed-value s b (before ++ last ∷ next ∷ []))
          ∙ (c.extension before last next ∙ ap (option_and_then (λ v. extends s v last next)) (composed-value s b (before ++ last ∷ [])));
    }

pub vector-order : IsOrder is_at_most
vector-order = record { reflexive = named_order.reflexive; transitive = named_order.transitive; antisymmetric = named_order.antisymmetric }

-- lists of one vector have one length
pub same-length : (s : Settings) (b : ℤ) (xs ys : List Duty) (x y : Duty) (v : PairingVector) → value_of s b (xs ++ x ∷ []) ≡ Some v → value_of s b (ys ++ y ∷ []) ≡ Some v → length (xs ++ x ∷ []) ≡ length (ys ++ y ∷ [])
same-length s b xs ys x y v p q =
    let k = (value-out s b (xs ++ x ∷ []) v p).1 in
    let m = (value-out s b (ys ++ y ∷ []) v q).1 in
    let e : pos (length (xs ++ x ∷ [])) ≡ pos (length (ys ++ y ∷ [])) = ap (λ z. z.duties) k ∙ sym (ap (λ z. z.duties) m) in
    (cc)
