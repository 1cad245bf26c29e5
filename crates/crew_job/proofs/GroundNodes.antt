-- The nodes of a ground's network are those of its timetable.
use Rattle.std.proofs.Common.{List, ℕ, map, sym, subst}
use Rattle.std.specs.List.{flat_map}
use Rattle.crew_job.proofs.Planned.{net-bases, net-duties}
use Rattle.crew_job.specs.Grounds.{Ground, IsGround, data_of, nodes_in}
use Rattle.crew_machine.proofs.NodeList.{listed-nodes}
use Rattle.crew_machine.specs.Crew.{DutyNode, crew}
use Rattle.crew_machine.specs.Worlds.{AreNodes}
use Rattle.crew_pairing.specs.declared.duty.Duty.{Duty}

pub are-nodes : (g : Ground) → IsGround g → AreNodes (crew g.settings) (data_of g) (nodes_in g.plan.net)
are-nodes g is =
    subst (λ (bases : List (List ℕ)). AreNodes (crew g.settings) (data_of g) (flat_map (λ b. map (λ (d : Duty). let n : DutyNode = record { base = b; duty = d } in n) g.plan.net.duties) bases)) (sym (net-bases g is))
    (listed-nodes g.settings (data_of g) g.plan.net.duties (net-duties g is))
