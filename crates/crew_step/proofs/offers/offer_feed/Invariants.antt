use Rattle.std.proofs.Common.{List, take, ◌++◌}
use Rattle.std.specs.List.{flat_map}
use Rattle.crew_pairing.specs.Legs.{Leg}
use Rattle.crew_pairing.specs.Local.{IsLocalOf}
use Rattle.crew_pairing.specs.declared.vector.PairingVector.{PairingVector}
use Rattle.crew_vector.specs.Dominance.{is_at_most}
use Rattle.crew_step.proofs.Fed.{fed-extensions}
use Rattle.crew_step.proofs.offers.offer_feed.Given as goal

abbrev pub invariant-loop-before : goal.invariant-loop-before
invariant-loop-before l =
    (candidates : List (PairingVector × List (List Leg))) → IsLocalOf is_at_most candidates l.fn.front
    → IsLocalOf is_at_most (candidates ++ flat_map (fed-extensions l.resource l.next) (take l.before-index l.feed)) l.front
