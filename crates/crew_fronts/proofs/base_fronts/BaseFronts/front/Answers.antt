use Rattle.std.proofs.Common.{◌≡◌, ◌∙◌, ◌<◌, Some, ap, length, sym, subst}
use Rattle.std.specs.Prelude.{slice_get}
use Rattle.crew_answers.specs.Fronts.{RiseByVector}
use Rattle.crew_pairing.specs.Duties.{RiseByKey}
use Rattle.crew_solve.specs.crew_sweep.Sweeps.{BaseSweep}
use Rattle.crew_fronts.specs.Fronts.{BaseFronts, front_at}
use Rattle.crew_fronts.specs.Machinery.Bases.{fronts_of}
use Rattle.crew_fronts.specs.Machinery.Kept.{fronts_of_sweep}
use Rattle.crew_fronts.proofs.Remembered.{there}
use Rattle.crew_fronts.proofs.Sweeps.{lent-is, rise-with-no-pasts}
use Rattle.crew_fronts.proofs.base_fronts.BaseFronts.front.Goals as goal

pub returns-in-Swept-clause-front : goal.returns-in-Swept-clause-front
returns-in-Swept-clause-front c = λ d at.
    let lent = c.deref-in-Swept.result.now in
    let same = c.deref-in-Swept.ensures ∙ sym c.deref.ensures in
    let rise = subst (λ (b : BaseSweep). RiseByKey b.net.duties) (sym same) c.net_of.ensures.rise in
    let own = ap fronts_of_sweep c.deref-in-Swept.ensures ∙ (ap fronts_of (sym c.in-Swept.is) ∙ c.self.view_is) in
    let here = subst (λ (b : BaseFronts). slice_get b.net.duties c.args.rank ≡ Some d) (sym own) at in
    let shown = c.front.ensures d here in
    c.swept.ensures ∙ (lent-is lent c.args.rank d c.front.result rise here shown.0 shown.1 ∙ ap (λ b. front_at b d) own)

pub returns-in-Swept-clause-rises : goal.returns-in-Swept-clause-rises
returns-in-Swept-clause-rises c =
    let lent = c.deref-in-Swept.result.now in
    let own = ap fronts_of_sweep c.deref-in-Swept.ensures ∙ (ap fronts_of (sym c.in-Swept.is) ∙ c.self.view_is) in
    let within = subst (λ (b : BaseFronts). c.args.rank < length b.net.duties) (sym own) c.requires in
    let found = there lent.net.duties c.args.rank within in
    subst RiseByVector (sym c.swept.ensures) (rise-with-no-pasts c.front.result (c.front.ensures found.0 found.1).1)
