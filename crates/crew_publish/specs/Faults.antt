-- Why a pair isn't made, a version isn't published, or a view isn't given.
use Rattle.std.specs.Prelude.{◌≤◌, ◌<◌, ℕ, List, Option, Some, None}
use Rattle.crew_version.specs.Versions.{Snapshot}
use Rattle.crew_publish.specs.Chain.{IsNext}
use Rattle.crew_publish.specs.declared.fault.PairFault.{PairFault}
use Rattle.crew_publish.specs.declared.fault.PairFault.TheVariants.{NoViewer, Memory as pair_memory}
use Rattle.crew_publish.specs.declared.fault.PublishFault.{PublishFault}
use Rattle.crew_publish.specs.declared.fault.PublishFault.TheVariants.{NotNext, Memory as publish_memory}
use Rattle.crew_publish.specs.declared.fault.ViewFault.{ViewFault}
use Rattle.crew_publish.specs.declared.fault.ViewFault.TheVariants.{NoView, Memory as view_memory}

-- the numbers of the refusals
abbrev pub pair_number : PairFault → Option ℕ
pair_number NoViewer = Some 64
pair_number pair_memory = None

abbrev pub publish_number : PublishFault → Option ℕ
publish_number NotNext = Some 56
publish_number publish_memory = None

abbrev pub view_number : ViewFault → Option ℕ
view_number NoView = Some 65
view_number view_memory = None

-- a pair has from 1 to 64 viewers
abbrev pub IsViewerCount : ℕ → Type 0
IsViewerCount viewers = (0 < viewers) × (viewers ≤ 64)

-- a pair isn't made for so many viewers: none or too many are asked for, or there is no memory
abbrev pub IsPairFault : ℕ → PairFault → Type 0
IsPairFault viewers NoViewer = IsViewerCount viewers → ⊥
IsPairFault viewers pair_memory = IsViewerCount viewers

-- a version isn't published after these: it doesn't follow the last one, or it does and there is
-- no memory
abbrev pub IsPublishFault : List Snapshot → Snapshot → PublishFault → Type 0
IsPublishFault list v NotNext = IsNext list v → ⊥
IsPublishFault list v publish_memory = IsNext list v
