use Rattle.std.proofs.Common.{◌∙◌, List, ap, length, subst, sym}
use Rattle.crew_job.proofs.Lots.{some-first}
use Rattle.crew_job.specs.Jobs.{Job}
use Rattle.crew_resource.proofs.Members.{Member-get_or}
use Rattle.crew_resource.specs.Members.{Member}
use Rattle.crew_job.proofs.done_lot.DoneLot.ground.Goals as goal

pub returns : goal.returns
returns c = λ job m.
    let jobs = c.results-results.result.now in
    let first = c.index-results-0.result in
    let low = some-first (length jobs) c.if-is_empty.ensures in
    let same = c.results-results.ensures.results in
    let here : Member jobs first = Member-get_or jobs 0 first low (sym c.index-results-0.is) in
    let there : Member c.args.self.now first = subst (λ (l : List Job). Member l first) same here in
    c.results-results.ensures.lot job first m there ∙ sym (c.ground.ensures.value ∙ ap (λ (j : Job). j.ground) c.job.ensures)
