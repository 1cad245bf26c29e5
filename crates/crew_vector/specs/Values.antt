-- The value that a list of duties has as a resource: its vector, under the caps.
use Rattle.std.specs.Prelude.{ℤ, Bool, cond, List, [], ◌∷◌, Option, Some, None}
use Rattle.std.specs.List.{list_all}
use Rattle.crew_pairing.specs.Pairings.{is_within_caps}
use Rattle.crew_pairing.specs.Vectors.{vector_of}
use Rattle.crew_pairing.specs.declared.duty.Duty.{Duty}
use Rattle.crew_pairing.specs.declared.vector.PairingVector.{PairingVector}
use Rattle.crew_resource.specs.Machinery.Sum.{beginnings}
use Rattle.crew_rules.specs.declared.settings.Settings.{Settings}

-- the list and each of its beginnings are within the caps
abbrev pub stays_within_caps : Settings → List Duty → Bool
stays_within_caps s duties = list_all (is_within_caps s) (beginnings duties)

-- the value of a list: its vector, and none where the list is empty or a beginning of it passes a
-- cap
abbrev pub value_of : Settings → ℤ → List Duty → Option PairingVector
value_of s base_price [] = None
value_of s base_price (first ∷ others) = cond (stays_within_caps s (first ∷ others))
    (Some (vector_of s base_price (first ∷ others))) None
