use Rattle.std.proofs.Common.{◌∙◌, length, sym}
use Rattle.crew_job.proofs.Lots.{some-first}
use Rattle.crew_resource.proofs.Members.{Member-get_or}
use Rattle.crew_job.proofs.lot.ground_of.Goals as goal

pub returns : goal.returns
returns c = λ job m.
    let first = c.index-jobs-0.result in
    let low = some-first (length c.args.jobs.now) c.if-is_empty.ensures in
    c.requires job first m (Member-get_or c.args.jobs.now 0 first low (sym c.index-jobs-0.is)) ∙ sym c.ground.ensures.value
