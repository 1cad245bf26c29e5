use Rattle.std.proofs.Common.{subst, sym}
use Rattle.crew_fronts.specs.Fronts.{BaseFronts, ShowsFronts}
use Rattle.crew_fronts.proofs.base_fronts.BaseFronts.passed_by_threads.Goals as goal

pub returns-clause-right : goal.returns-clause-right
returns-clause-right g c t sound dated are =
    subst (λ (b : BaseFronts). ShowsFronts t b) (sym c.in_ok-new.ensures.ok) (c.in_ok-fronts.ensures.right t sound dated are)
