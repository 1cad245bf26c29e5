use Rattle.crew_resource.proofs.Covering.{local_of_all, local_of_part}
use Rattle.crew_resource.specs.Events.{FromPools}
use Rattle.crew_resource.specs.Members.{Member}
use Rattle.crew_pairing.specs.Legs.{Leg}
use Rattle.std.proofs.Common.{List}
use Rattle.crew_vector.specs.Dominance.{is_at_most}
use Rattle.crew_vector.specs.Events.{ArrivedBefore, ArrivedToSpare, network_of}
use Rattle.crew_pairing.specs.Keys.{walk_at_most}
use Rattle.crew_vector.specs.Locals.{Candidate}
use Rattle.crew_pairing.specs.declared.vector.PairingVector.{PairingVector}
use Rattle.crew_vector.proofs.Orders.{walk-order}
use Rattle.crew_vector.proofs.Steps.{vector-order}
use Rattle.crew_vector.proofs.laws.covering_candidates_leave_the_same_entries.Goals as goal

pub returns-clause-node : goal.returns-clause-node
returns-clause-node c = λ s base price d feed part entries covering local.
    local_of_all PairingVector (List (List Leg)) is_at_most walk_at_most vector-order walk-order (λ v w. Member part (v, w)) (Candidate s base price d feed) covering entries local

pub returns-clause-back : goal.returns-clause-back
returns-clause-back c = λ s base price d feed part entries covering local.
    local_of_part PairingVector (List (List Leg)) is_at_most walk_at_most vector-order walk-order (λ v w. Member part (v, w)) (Candidate s base price d feed) covering entries local

pub returns-clause-pool : goal.returns-clause-pool
returns-clause-pool c = λ s base price duties arrivals g part entries covering local.
    local_of_all PairingVector (List (List Leg)) is_at_most walk_at_most vector-order walk-order (λ v w. Member part (v, w)) (FromPools (network_of s base price duties) arrivals g) covering entries local

pub returns-clause-arrival : goal.returns-clause-arrival
returns-clause-arrival c = λ s base price duties fronts minute x part entries covering local.
    local_of_all PairingVector (List (List Leg)) is_at_most walk_at_most vector-order walk-order (λ v w. Member part (v, w)) (ArrivedBefore (network_of s base price duties) fronts minute x) covering entries local

pub returns-clause-spare : goal.returns-clause-spare
returns-clause-spare c = λ s base price duties fronts minute x part entries covering local.
    local_of_all PairingVector (List (List Leg)) is_at_most walk_at_most vector-order walk-order (λ v w. Member part (v, w)) (ArrivedToSpare s (network_of s base price duties) fronts minute x) covering entries local
