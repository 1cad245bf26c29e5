use Rattle.std.proofs.Common.{subst, sym}
use Rattle.crew_net.specs.Nets.{Net}
use Rattle.crew_pairing.specs.Duties.{AreDuties}
use Rattle.crew_fronts.proofs.passed_fronts.PassedFronts.new.Goals as goal

pub returns-clause-right : goal.returns-clause-right
returns-clause-right c t sound dated are =
    c.of.ensures.right t sound dated (subst (λ (n : Net). AreDuties n.settings t n.duties) (sym c.in_ok-passed.ensures.net) are)
