-- Lots: jobs that stand on one ground, so that it is compared with another once for all of them.
use Rattle.std.specs.Prelude.{◌≡◌, List}
use Rattle.crew_job.specs.Grounds.{Ground}
use Rattle.crew_job.specs.Jobs.{Job}
use Rattle.crew_resource.specs.Members.{Member}

-- each job of a list stands on a ground
abbrev pub StandOn : Ground → List Job → Type 0
StandOn g jobs = (job : Job) → Member jobs job → job.ground ≡ g

-- the jobs of a list stand on one ground
abbrev pub IsLot : List Job → Type 0
IsLot jobs = (one other : Job) → Member jobs one → Member jobs other → one.ground ≡ other.ground
