use Rattle.std.proofs.Common.{refl, subst, sym}
use Rattle.crew_resource.specs.Members.{Member}
use Rattle.crew_answers.specs.Shown.{long_resource}
use Rattle.crew_answers.specs.Schedules.{schedule_of}
use Rattle.crew_answers.proofs.LongNodes.{shown-front}
use Rattle.crew_answers.proofs.Scheduled.{same-count, scheduled}
use Rattle.crew_answers.proofs.laws.covered_passes_show_the_fronts.Goals as goal

pub returns : goal.returns
returns c = λ s t base price duties pools arrivals fronts d range sound dated are pass legal.
    shown-front s t base price range sound dated duties are d legal (fronts d)
    (c.covered_passes_show_the_fronts.ensures (long_resource s price) s.max_duties (schedule_of s base duties) pools arrivals fronts d refl same-count
    (scheduled s t base duties sound are) pass (subst (Member duties) (sym legal.3) (are.every legal.0 legal.1 legal.2)))
