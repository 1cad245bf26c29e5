use Rattle.std.proofs.Common.{◌≡◌, ◌∙◌, Some, sym, ap}
use Rattle.crew_job.proofs.NodePlaces.{some-node-at}
use Rattle.crew_job.proofs.Planned.{data-sound}
use Rattle.crew_job.proofs.Works.{one-work, some-work}
use Rattle.crew_job.specs.Grounds.{data_of}
use Rattle.crew_job.proofs.laws.each_job_has_one_work.Goals as goal

pub returns-clause-some : goal.returns-clause-some
returns-clause-some c = λ job is placed.
    let g = job.ground in
    let n = some-node-at g.plan.net job.base job.rank placed.base placed.rank in
    let w = some-work g.settings is.checked (data_of g) (data-sound g is) is.few n.0 in
    (w.0, record { node = n.1 ∙ ap Some (sym w.1); own = w.2 })

pub returns-clause-one : goal.returns-clause-one
returns-clause-one c = λ job a b is h k.
    let same : Some a.node ≡ Some b.node = sym h.node ∙ k.node in
    one-work job.ground.settings is.checked (data_of job.ground) a b (cc (same)) h.own k.own
