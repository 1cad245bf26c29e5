-- What is compared of a node in two grounds.
use Rattle.std.specs.Prelude.{◌≡◌, ◌↔◌, ◌+◌, ◌*◌, ℕ, true, List, Option, Some, None, get_or, length, slice_get}
use Rattle.crew_job.specs.Grounds.{Ground, data_of}
use Rattle.crew_job.specs.Jobs.{Job, job_node}
use Rattle.crew_job.specs.Shown.{IsShown}
use Rattle.crew_machine.specs.Crew.{DutyNode, Entries, IsFrontOf}
use Rattle.crew_net.specs.Nets.{Net}
use Rattle.crew_pairing.specs.Pairings.{may_stand_after}
use Rattle.crew_pairing.specs.declared.duty.Duty.{Duty}
use Rattle.crew_resource.specs.Members.{Member}
use Rattle.crew_rules.specs.declared.settings.Settings.{Settings}
use Rattle.crew_version.specs.crew_fronts.Fronts.{BaseFronts}

-- the same duties, with all their facts, may stand just before one in two networks
abbrev pub HaveSameBefore : Settings → Net → Net → Duty → Type 0
HaveSameBefore s one other d = (e : Duty) → may_stand_after s e d ≡ true
    → (Member one.duties e ↔ Member other.duties e)

-- a node's fronts in two grounds are one
abbrev pub HasSameFront : Ground → Ground → DutyNode → Type 0
HasSameFront one other p = (f g : Entries) → IsFrontOf one.settings (data_of one) p f
    → IsFrontOf other.settings (data_of other) p g → f ≡ g

-- .. those of each duty that may stand just before one, at the same base
abbrev pub HaveSameFronts : Job → Ground → List ℕ → Duty → Type 0
HaveSameFronts job g code d = (e : Duty) → Member g.plan.net.duties e
    → may_stand_after g.settings e d ≡ true
    → HasSameFront job.ground g (record { base = code; duty = e })

-- a job's node stands in a ground too, the base at a place there, under the same settings and after
-- the same duties
pub record IsAlike (job : Job) (g : Ground) (code : List ℕ) (d : Duty) (base : ℕ) : Type 0 where
  pub node : job_node job ≡ Some (record { base = code; duty = d })
  pub based : slice_get g.plan.net.bases base ≡ Some code
  pub there : Member g.plan.net.duties d
  pub settings : job.ground.settings ≡ g.settings
  pub before : HaveSameBefore g.settings job.ground.plan.net g.plan.net d

-- what shows the fronts of the duties just before a duty is right, by the place of the base and
-- rank
abbrev pub AreShownAt : Ground → List ℕ → Duty → ℕ → List (Option BaseFronts) → Type 0
AreShownAt g code d base shown = (rank : ℕ) (e : Duty) → slice_get g.plan.net.duties rank ≡ Some e
    → may_stand_after g.settings e d ≡ true
    → IsShown g (record { base = code; duty = e })
    (get_or shown (base * length g.plan.net.duties + rank) None)
