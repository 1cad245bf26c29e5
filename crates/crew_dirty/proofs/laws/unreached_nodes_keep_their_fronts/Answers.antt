use Rattle.std.proofs.Common.{subst}
use Rattle.crew_pairing.specs.Duties.{AreDuties}
use Rattle.crew_rules.specs.declared.settings.Settings.{Settings}
use Rattle.crew_dirty.proofs.Fronts.{front-stays}
use Rattle.crew_dirty.proofs.laws.unreached_nodes_keep_their_fronts.Goals as goal

pub returns : goal.returns
returns c = λ s t u old new old_price new_price base price d entries checked sound after was now olds news m clear front.
    front-stays s t u old new checked sound after (subst (λ (z : Settings). AreDuties z t old.duties) was olds.duties) (subst (λ (z : Settings). AreDuties z u new.duties) now news.duties) now old_price new_price base price d m clear entries
    front
