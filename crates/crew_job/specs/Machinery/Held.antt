-- What a job keeps.
use Rattle.std.specs.Prelude.{◌≡◌, ◌↔◌, true, Bool, Option, Some}
use Rattle.crew_job.specs.Grounds.{IsGround}
use Rattle.crew_job.specs.Jobs.{IsPlaced, Job, job_node}
use Rattle.crew_job.specs.Shown.{AreReadable, IsAsSealed}
use Rattle.crew_machine.specs.Crew.{DutyNode}
use Rattle.crew_version.specs.crew_fronts.Fronts.{BaseFronts}
use Rattle.crew_version.specs.crew_plan.Plans.{AreFrontsIn}

-- its ground is right, its node is there, and the fronts before it can be read
pub record IsHeld (job : Job) (sweep : Option BaseFronts) : Type 0 where
  pub right : IsGround job.ground
  pub placed : IsPlaced job
  pub readable : AreReadable job.ground job.base job.rank sweep

-- what is done has its base's sweep
pub record IsSwept (job : Job) (sweep : BaseFronts) : Type 0 where
  pub right : IsGround job.ground
  pub placed : IsPlaced job
  pub swept : AreFrontsIn job.ground.plan job.base sweep

-- .. and tells whether the version before the round has the job's node with its front
abbrev pub TellsKept : Job → Bool → Type 0
TellsKept job kept = (n : DutyNode) → job_node job ≡ Some n → (kept ≡ true) ↔ IsAsSealed job.ground n
