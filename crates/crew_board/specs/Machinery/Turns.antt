-- What each call does to a round, in terms of its marks.
use Rattle.std.specs.Prelude.{◌≡◌, ◌↔◌, ◌+◌, ◌++◌, ◌∷◌, [], ℕ, Bool, true, false, List, Option, Some, None, get_or, slice_get}
use Rattle.crew_board.specs.Machinery.Held.{Marked}
use Rattle.crew_job.specs.Grounds.{IsGround, nodes_in}
use Rattle.crew_job.specs.Jobs.{IsJobOf, IsOwnAt, IsPlaced, Job, job_node}
use Rattle.crew_job.specs.Shown.{IsAsSealed}
use Rattle.crew_machine.specs.Crew.{DutyNode, DutyWork}
use Rattle.crew_machine.specs.declared.rounds.Brought.{Brought}
use Rattle.crew_net.specs.Events.{arrives_at}
use Rattle.crew_net.specs.Nets.{Net}
use Rattle.crew_net.specs.Ranks.{ranks_where}
use Rattle.crew_net.specs.declared.node.Node.{Node}
use Rattle.crew_pairing.specs.Events.{departure_of, may_wait}
use Rattle.crew_pairing.specs.Pairings.{may_stand_after}
use Rattle.crew_pairing.specs.declared.duty.Duty.{Duty}
use Rattle.crew_pairing.specs.declared.events.Arrival.{Arrival}
use Rattle.crew_resource.specs.Members.{Member}
use Rattle.crew_machine.specs.declared.rounds.Brought.TheVariants.{Stale, Again, Stored}
use Rattle.crew_round.specs.Marks.{AreDoneBefore, IsFirstReady, IsFirstUndone, IsMarked, AreSameBefore, IsUndone, Marks, NoneReady, Stores, with_mark}
use Rattle.crew_job.specs.crew_fronts.Fronts.{BaseFronts}
use Rattle.crew_job.specs.crew_plan.Plans.{AreFrontsIn}
use Rattle.crew_round.specs.declared.mark.Mark.TheVariants.{Waiting, Out, Done}

abbrev pub with_marks : Marked → Marks → Marked
with_marks r marks = record { ground = r.ground; marks = marks }

-- the nodes of a base stand from a place on: each that may stand just before a duty has its flag
abbrev pub AllSameBefore : List Bool → Net → Duty → ℕ → Type 0
AllSameBefore same net duty first = (rank : ℕ) (e : Duty) → slice_get net.duties rank ≡ Some e
    → may_stand_after net.settings e duty ≡ true → get_or same (first + rank) false ≡ true

-- .. each that comes in at an arrival, if that may stand just before the duty
abbrev pub AreSameIfBefore : List Bool → Net → Duty → ℕ → ℕ → Type 0
AreSameIfBefore same net duty first arrival = (x : Arrival) → slice_get net.arrivals arrival ≡ Some x
    → may_wait net.settings x (departure_of duty) ≡ true → (rank : ℕ)
    → Member (ranks_where (arrives_at x) net.duties) rank → get_or same (first + rank) false ≡ true

-- what a job's fronts before it are read from: its base's sweep, or, without one, the version before
-- the round, which has all of them
abbrev pub IsReadableFrom : Marked → ℕ → ℕ → Option BaseFronts → Type 0
IsReadableFrom r place base None = AreSameBefore r.marks place
IsReadableFrom r place base (Some b) = AreFrontsIn r.ground.plan base b

-- the least ready node is out, and this is its job
pub record ClaimsAt (old : Marked) (job : Job) (new : Marked) : Type 0 where
  pub place : ℕ
  pub first : IsFirstReady old.marks place
  pub ground : job.ground ≡ old.ground
  pub node : slice_get (nodes_in old.ground.plan.net) place ≡ job_node job
  pub after : new ≡ with_marks old (with_mark old.marks place Out)

abbrev pub HasClaimed : Marked → Option Job → Marked → Type 0
HasClaimed old None new = NoneReady old.marks × (new ≡ old)
HasClaimed old (Some job) new = ClaimsAt old job new

-- the job is, now, the own job of the node at a place
pub record IsOwnPlace (r : Marked) (job : Job) (place : ℕ) : Type 0 where
  pub before : AreDoneBefore r.marks place
  pub own : (work : DutyWork) → IsJobOf job work → IsOwnAt r.ground place work

abbrev pub IsNowhere : Marked → Job → Type 0
IsNowhere r job = (place : ℕ) → IsOwnPlace r job place → ⊥

-- the node at a place is done, and it is told whether the version before has it with the same front
pub record StoresAt (old : Marked) (job : Job) (new : Marked) : Type 0 where
  pub place : ℕ
  pub own : IsOwnPlace old job place
  pub undone : IsUndone old.marks place
  pub same : Bool
  pub told : (n : DutyNode) → slice_get (nodes_in old.ground.plan.net) place ≡ Some n
      → (same ≡ true) ↔ IsAsSealed old.ground n
  pub marks : Marks
  pub stores : Stores old.marks place same marks
  pub after : new ≡ with_marks old marks

-- a node is done, and others whose work is unchanged with it
pub record IsStored (old : Marked) (place : ℕ) (same : Bool) (new : Marked) : Type 0 where
  pub marks : Marks
  pub stores : Stores old.marks place same marks
  pub after : new ≡ with_marks old marks

abbrev pub HasBrought : Marked → Job → Brought → Marked → Type 0
HasBrought old job Stale new = IsNowhere old job × (new ≡ old)
HasBrought old job Again new = (place : ℕ) × IsOwnPlace old job place
    × IsMarked old.marks place Done × (new ≡ old)
HasBrought old job Stored new = StoresAt old job new

abbrev pub HasGivenBack : Marked → Job → Bool → Marked → Type 0
HasGivenBack old job true new = (place : ℕ) × IsOwnPlace old job place
    × IsMarked old.marks place Out × (new ≡ with_marks old (with_mark old.marks place Waiting))
HasGivenBack old job false new = ((place : ℕ) → IsOwnPlace old job place
    → IsMarked old.marks place Out → ⊥) × (new ≡ old)

-- the jobs of the least ready nodes are handed out, one after another
abbrev pub ClaimsEach : Marked → List Job → Marked → Type 0
ClaimsEach old [] new = new ≡ old
ClaimsEach old (job ∷ jobs) new = (mid : Marked) × ClaimsAt old job mid × ClaimsEach mid jobs new

-- a lot has one job more, or no node is ready
abbrev pub HasAdded : Marked → List Job → Bool → Marked → List Job → Type 0
HasAdded old jobs true new more = (job : Job) × ClaimsAt old job new × (more ≡ jobs ++ job ∷ [])
HasAdded old jobs false new more = NoneReady old.marks × (new ≡ old) × (more ≡ jobs)

-- the result of a job is taken in, whose ground and node are there
pub record TakesIn (old : Marked) (job : Job) (brought : Brought) (new : Marked) : Type 0 where
  pub ground : IsGround job.ground
  pub placed : IsPlaced job
  pub turn : HasBrought old job brought new

abbrev pub TakesInEach : Marked → List Job → List Brought → Marked → Type 0
TakesInEach old [] [] new = new ≡ old
TakesInEach old [] (brought ∷ others) new = ⊥
TakesInEach old (job ∷ jobs) [] new = ⊥
TakesInEach old (job ∷ jobs) (brought ∷ others) new = (mid : Marked) × TakesIn old job brought mid
    × TakesInEach mid jobs others new

-- a job is taken back
pub record TakesBack (old : Marked) (job : Job) (freed : Bool) (new : Marked) : Type 0 where
  pub ground : IsGround job.ground
  pub turn : HasGivenBack old job freed new

abbrev pub TakesBackEach : Marked → List Job → List Bool → Marked → Type 0
TakesBackEach old [] [] new = new ≡ old
TakesBackEach old [] (freed ∷ others) new = ⊥
TakesBackEach old (job ∷ jobs) [] new = ⊥
TakesBackEach old (job ∷ jobs) (freed ∷ others) new = (mid : Marked) × TakesBack old job freed mid
    × TakesBackEach mid jobs others new

-- the node at the least place that isn't done
pub record IsFirstNode (r : Marked) (node : Node) : Type 0 where
  pub place : ℕ
  pub first : IsFirstUndone r.marks place
  pub named : (n : DutyNode) → slice_get (nodes_in r.ground.plan.net) place ≡ Some n
      → node ≡ record { base = n.base; key = n.duty.key }
