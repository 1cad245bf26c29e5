-- Where the front of a node is read from without memory: a sweep, or the version before the round.
use Rattle.std.specs.Prelude.{◌≡◌, ℕ, true, List, Option, Some, None, get_or, slice_get}
use Rattle.crew_flights.specs.Timetable.{Timetable}
use Rattle.crew_job.specs.declared.left.Left.{Left}
use Rattle.crew_job.specs.Grounds.{Ground, data_of, node_at, nodes_in, sealed_data_of}
use Rattle.crew_machine.specs.Crew.{DutyNode, Entries, IsFrontOf, IsNodeOf, MayPrecede, crew}
use Rattle.crew_machine.specs.Worlds.{IsBefore}
use Rattle.crew_pairing.specs.Events.{departure_of}
use Rattle.crew_pairing.specs.declared.events.Departure.{Departure}
use Rattle.crew_resource.specs.Members.{Member}
use Rattle.crew_rules.specs.declared.settings.Settings.{Settings}
use Rattle.crew_version.specs.crew_fronts.Fronts.{BaseFronts, front_at}
use Rattle.crew_version.specs.crew_plan.Plans.{AreFrontsIn}

-- a sweep shows a node's front: that of a base and a duty
pub record ShowsFrontOf (s : Settings) (t : Timetable) (n : DutyNode) (b : BaseFronts) : Type 0 where
  pub own : b.base ≡ n.base
  pub there : Member b.net.duties n.duty
  pub front : IsFrontOf s t n (front_at b n.duty)

-- the version before the round has the node, with the front that it has in the round
pub record IsAsSealed (g : Ground) (n : DutyNode) : Type 0 where
  pub there : IsNodeOf g.settings (sealed_data_of g) n
  pub front : (f : Entries) → IsFrontOf g.settings (sealed_data_of g) n f
      → IsFrontOf g.settings (data_of g) n f

-- of the nodes that leave at a departure, the version before the round has those of its that the
-- round has too with the round's fronts
abbrev pub LeavesAsSealed : Ground → List ℕ → Departure → Type 0
LeavesAsSealed g base at = (n : DutyNode) → n.base ≡ base → departure_of n.duty ≡ at
    → IsNodeOf g.settings (data_of g) n → IsNodeOf g.settings (sealed_data_of g) n
    → (f : Entries) → IsFrontOf g.settings (data_of g) n f
    → IsFrontOf g.settings (sealed_data_of g) n f

-- what is known of a departure that was looked at
abbrev pub IsLeft : Ground → Left → Type 0
IsLeft g left = left.alike ≡ true → LeavesAsSealed g left.base left.departure

abbrev pub IsLeftOf : Ground → Option Left → Type 0
IsLeftOf g None = Unit {0}
IsLeftOf g (Some left) = IsLeft g left

-- what shows a node's front is right: a sweep, or none where the version before has the same front
abbrev pub IsShown : Ground → DutyNode → Option BaseFronts → Type 0
IsShown g n None = IsAsSealed g n
IsShown g n (Some b) = ShowsFrontOf g.settings (data_of g) n b

-- at each node just before that of a place, by place in node order, what shows its front is right
abbrev pub AreShownBefore : Ground → ℕ → List (Option BaseFronts) → Type 0
AreShownBefore g place shown = (n p : DutyNode) (k : ℕ) → slice_get (nodes_in g.plan.net) place
    ≡ Some n → slice_get (nodes_in g.plan.net) k ≡ Some p → MayPrecede g.settings p n
    → IsShown g p (get_or shown k None)

-- the fronts of the nodes just before that of a base's place and a rank can be read: from the
-- base's sweep, or without one from the version before
abbrev pub AreReadable : Ground → ℕ → ℕ → Option BaseFronts → Type 0
AreReadable g base rank None = (n p : DutyNode) → node_at g.plan.net base rank ≡ Some n
    → IsBefore (crew g.settings) (data_of g) p n → IsAsSealed g p
AreReadable g base rank (Some b) = AreFrontsIn g.plan base b
