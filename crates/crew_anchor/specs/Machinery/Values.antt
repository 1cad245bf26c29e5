-- The value of a list of duties: from before its first duty on, boarding each.
use Rattle.std.specs.Prelude.{ℤ, pos, negsuc, List, [], ◌∷◌, Option, Some, None}
use Rattle.std.specs.Int.{int_max, int_min}
use Rattle.std.specs.Option.{option_and_then}
use Rattle.crew_pairing.specs.declared.duty.Duty.{Duty}
use Rattle.crew_pairing.specs.declared.vector.PairingVector.{PairingVector}
use Rattle.crew_anchor.specs.Stages.{anchored_board, anchored_idle}
use Rattle.crew_anchor.specs.declared.resource.AnchoredResource.{AnchoredResource}

-- the nearest minute of 32 bits; a duty's minutes all are
abbrev pub near : ℤ → ℤ
near minute = int_max (int_min minute (pos 2_147_483_647)) (negsuc 2_147_483_647)

abbrev pub begun : AnchoredResource → ℤ → PairingVector
begun r minute = anchored_idle r (near minute)

abbrev pub boarded_all : AnchoredResource → PairingVector → List Duty → Option PairingVector
boarded_all r v [] = Some v
boarded_all r v (d ∷ ds) = option_and_then (λ z. boarded_all r z ds) (anchored_board r v d)

abbrev pub anchored_value : AnchoredResource → List Duty → Option PairingVector
anchored_value r [] = None
anchored_value r (d ∷ ds) = boarded_all r (begun r d.report) (d ∷ ds)
