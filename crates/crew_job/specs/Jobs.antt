-- Jobs: a ground and a node of its. A job stands for the work on the node: the node's own inputs,
-- and each node just before it with its front.
use Rattle.std.specs.Prelude.{◌≡◌, ◌<◌, ℕ, Option, Some, length, slice_get}
use Rattle.crew_job.specs.Grounds.{Ground, data_of, node_at, nodes_in, sealed_data_of}
use Rattle.crew_machine.specs.Crew.{DutyNode, DutyWork, Entries, IsFrontOf, IsNodeOf, crew}
use Rattle.crew_machine.specs.Worlds.{IsWorkOf}

-- a ground, the place of a base of its plan's, and the rank of a duty there
pub record Job : Type 0 where
  pub ground : Ground
  pub base : ℕ
  pub rank : ℕ

-- there is such a base, and such a duty
pub record IsPlaced (job : Job) : Type 0 where
  pub base : job.base < length job.ground.plan.net.bases
  pub rank : job.rank < length job.ground.plan.net.duties

-- the work is its node's own in the data of a ground: the node's own inputs, and each node just
-- before it with its front
abbrev pub IsOwnWork : Ground → DutyWork → Type 0
IsOwnWork g work = IsWorkOf (crew g.settings) (data_of g) (IsFrontOf g.settings (data_of g)) work

-- the node of a job
abbrev pub job_node : Job → Option DutyNode
job_node job = node_at job.ground.plan.net job.base job.rank

-- the work that a job stands for
pub record IsJobOf (job : Job) (work : DutyWork) : Type 0 where
  pub node : job_node job ≡ Some work.node
  pub own : IsOwnWork job.ground work

-- the work is, in a ground, that of the node at a place, in node order
pub record IsOwnAt (g : Ground) (place : ℕ) (work : DutyWork) : Type 0 where
  pub node : slice_get (nodes_in g.plan.net) place ≡ Some work.node
  pub own : IsOwnWork g work

-- the version before a round has the node at a place, and this is its front there
pub record IsKeptAt (g : Ground) (place : ℕ) (front : Entries) : Type 0 where
  pub node : DutyNode
  pub stands : slice_get (nodes_in g.plan.net) place ≡ Some node
  pub there : IsNodeOf g.settings (sealed_data_of g) node
  pub is_front : IsFrontOf g.settings (sealed_data_of g) node front
