use Rattle.std.proofs.Common.{subst, sym}
use Rattle.crew_resource.specs.Members.{Member}
use Rattle.crew_sums.proofs.Paths.{shown-front}
use Rattle.crew_sums.proofs.laws.fronts_of_values_show_the_fronts.Goals as goal

pub returns : goal.returns
returns c = λ s t base price duties d entries checked sound are real legal.
    shown-front s t base price duties checked sound are real d (subst (Member duties) (sym legal.3) (are.every legal.0 legal.1 legal.2)) entries
