use Rattle.std.proofs.Common.{◌≡◌, ◌<◌, ℕ, Some, true}
use Rattle.std.specs.Prelude.{slice_get}
use Rattle.crew_job.specs.Machinery.Compared.{HasSameFront}
use Rattle.crew_pairing.specs.Pairings.{may_stand_after}
use Rattle.crew_pairing.specs.declared.duty.Duty.{Duty}
use Rattle.crew_job.proofs.own.have_same_fronts.Given as goal

abbrev pub invariant-loop-rank : goal.invariant-loop-rank
invariant-loop-rank l = (k : ℕ) (e : Duty) → k < l.rank → slice_get l.ground.plan.net.duties k ≡ Some e → may_stand_after l.ground.settings e l.duty ≡ true → HasSameFront l.job.ground l.ground (record { base = l.code; duty = e })
