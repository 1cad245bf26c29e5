-- The node of a job, and where it stands.
use Rattle.std.proofs.Common.{◌≡◌, ◌∙◌, ◌+◌, ◌*◌, ◌<◌, ℕ, List, Option, Some, None, length, sym, ap, subst}
use Rattle.std.specs.Prelude.{MatchOption, slice_get}
use Rattle.crew_job.proofs.NodePlaces.{node-among, node-from, node-parts, node-place, some-node-at}
use Rattle.crew_job.specs.Grounds.{nodes_in}
use Rattle.crew_job.specs.Jobs.{IsPlaced, Job, job_node}
use Rattle.crew_machine.specs.Crew.{DutyNode}
use Rattle.crew_net.specs.Nets.{Net}
use Rattle.crew_pairing.specs.declared.duty.Duty.{Duty}
use Rattle.crew_resource.specs.Members.{Member}

some-same : {X : Type 0} (x y : X) → Some x ≡ Some y → x ≡ y
some-same x y e = cc

module _ (net : Net) (job : Job) (placed : IsPlaced job) where
  node-there : (place : ℕ) → slice_get (nodes_in net) place ≡ job_node job → (n : DutyNode) × (job_node job ≡ Some n) × Member net.bases n.base × Member net.duties n.duty
  node-there place e =
      let n = some-node-at job.ground.plan.net job.base job.rank placed.base placed.rank in
      let m = node-among net place n.0 (e ∙ n.1) in
      (n.0, n.1, m.0, m.1)

  -- a job's node isn't there, where its base isn't
  pub no-base : (code : List ℕ) → slice_get job.ground.plan.net.bases job.base ≡ Some code → (Member net.bases code → ⊥) → (place : ℕ) → slice_get (nodes_in net) place ≡ job_node job → ⊥
  no-base code at none place e =
      let n = node-there place e in
      let parts = node-parts job.ground.plan.net job.base job.rank n.0 n.1 in
      none (subst (Member net.bases) (some-same n.0.base code (sym parts.0 ∙ at)) n.2)

  -- .. or where its duty isn't
  pub no-duty : (d : Duty) → slice_get job.ground.plan.net.duties job.rank ≡ Some d → (Member net.duties d → ⊥) → (place : ℕ) → slice_get (nodes_in net) place ≡ job_node job → ⊥
  no-duty d at none place e =
      let n = node-there place e in
      let parts = node-parts job.ground.plan.net job.base job.rank n.0 n.1 in
      none (subst (Member net.duties) (some-same n.0.duty d (sym parts.1 ∙ at)) n.3)

  -- and it stands at the place of both
  pub job-place : (code : List ℕ) (d : Duty) (base rank place : ℕ) → slice_get job.ground.plan.net.bases job.base ≡ Some code → slice_get job.ground.plan.net.duties job.rank ≡ Some d → slice_get net.bases base ≡ Some code → slice_get net.duties rank ≡ Some d → rank < length net.duties
      → place ≡ base * length net.duties + rank → slice_get (nodes_in net) place ≡ job_node job
  job-place code d base rank place a b e f h is =
      ap (slice_get (nodes_in net)) is ∙ (node-place net base rank h ∙ (node-from net base rank code d e f ∙ sym (node-from job.ground.plan.net job.base job.rank code d a b)))

-- what is none
pub at-none : {X : Type 0} (o : Option X) (A : Type 0) (B : X → Type 0) → o ≡ None → A → MatchOption o A B
at-none o A B e a = subst (λ z. MatchOption z A B) (sym e) a
