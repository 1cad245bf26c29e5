use Rattle.std.proofs.Common.{◌≡◌, ◌∙◌, ◌<◌, ap, length, subst, sym}
use Rattle.std.specs.Prelude.{slice_get}
use Rattle.crew_job.proofs.NodePlaces.{node-place}
use Rattle.crew_job.specs.Grounds.{Ground, node_at, nodes_in}
use Rattle.crew_job.specs.Jobs.{Job, job_node}
use Rattle.crew_net.specs.Nets.{Net}
use Rattle.crew_job.proofs.job.Job.place.Goals as goal

pub returns-clause-place : goal.returns-clause-place
returns-clause-place c =
    let i = c.self.inside in
    let here = c.place_in.result in
    let net = c.net.ensures.net ∙ ap (λ (g : Ground). g.plan.net) c.deref.ensures in
    let within = subst (λ (n : Net). i.rank < length n.duties) (sym net) c.self.invariant.placed.rank in
    let stands = ap (slice_get (nodes_in c.net.result.now)) c.place_in.ensures ∙ node-place c.net.result.now i.base i.rank within in
    let own = subst (λ (n : Net). slice_get (nodes_in n) here ≡ node_at n i.base i.rank) net stands in
    subst (λ (j : Job). slice_get (nodes_in j.ground.plan.net) here ≡ job_node j) c.self.view_is own
