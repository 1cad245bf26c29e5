use Rattle.std.proofs.Common.{◌≡◌, ℕ, List, Some, subst}
use Rattle.std.specs.Prelude.{slice_get}
use Rattle.std.proofs.lemmas.Option.{slice_get_within}
use Rattle.crew_net.specs.Nets.{Net}
use Rattle.crew_resource.specs.Members.{Member}
use Rattle.crew_job.proofs.JobNodes.{at-none, job-place, no-base, no-duty}
use Rattle.crew_job.specs.Grounds.{nodes_in}
use Rattle.crew_job.specs.Jobs.{job_node}
use Rattle.crew_job.proofs.ground.Ground.place_of.Goals as goal

pub returns-in_err-base : goal.returns-in_err-base
returns-in_err-base c =
    let net = c.net-net.result.now in
    let none : Member net.bases c.code.result → ⊥ = subst (λ (l : List (List ℕ)). Member l c.code.result → ⊥) c.bases.ensures c.in_err-base.ensures in
    at-none c.from_residual.result _ _ c.from_residual.ensures (subst (λ (z : Net). (place : ℕ) → slice_get (nodes_in z) place ≡ job_node c.args.job.now → ⊥) c.net-net.ensures.net (no-base net c.args.job.now c.code.ensures.placed c.code.result c.code.ensures.code none))

pub returns-in_err-rank : goal.returns-in_err-rank
returns-in_err-rank c =
    at-none c.from_residual-in_err-rank.result _ _ c.from_residual-in_err-rank.ensures (subst (λ (z : Net). (place : ℕ) → slice_get (nodes_in z) place ≡ job_node c.args.job.now → ⊥) c.net-net.ensures.net (no-duty c.net-net.result.now c.args.job.now c.duty.ensures.placed c.duty.result.now c.duty.ensures.duty c.in_err-rank.ensures))

pub place_in-requires-clause-base : goal.place_in-requires-clause-base
place_in-requires-clause-base c = slice_get_within c.net-net.result.now.bases c.in_ok-base.base c.code.result (subst (λ (l : List (List ℕ)). slice_get l c.in_ok-base.base ≡ Some c.code.result) c.bases.ensures c.in_ok-base.ensures)

pub place_in-requires-clause-rank : goal.place_in-requires-clause-rank
place_in-requires-clause-rank c = slice_get_within c.net-net.result.now.duties c.in_ok-rank.rank c.duty.result.now c.in_ok-rank.ensures

pub returns : goal.returns
returns c =
    let net = c.net-net.result.now in
    let at : slice_get net.bases c.in_ok-base.base ≡ Some c.code.result = subst (λ (l : List (List ℕ)). slice_get l c.in_ok-base.base ≡ Some c.code.result) c.bases.ensures c.in_ok-base.ensures in
    let within = slice_get_within net.duties c.in_ok-rank.rank c.duty.result.now c.in_ok-rank.ensures in
    subst (λ (z : Net). slice_get (nodes_in z) c.place_in.result ≡ job_node c.args.job.now) c.net-net.ensures.net
    (job-place net c.args.job.now c.code.ensures.placed c.code.result c.duty.result.now c.in_ok-base.base c.in_ok-rank.rank c.place_in.result c.code.ensures.code c.duty.ensures.duty at c.in_ok-rank.ensures within c.place_in.ensures)
