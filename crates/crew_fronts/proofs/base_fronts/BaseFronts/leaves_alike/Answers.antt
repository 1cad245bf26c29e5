use Rattle.std.proofs.Common.{◌≡◌, ◌∙◌, ap, sym, subst}
use Rattle.crew_pairing.specs.Duties.{RiseByKey}
use Rattle.crew_resource.specs.Members.{Member}
use Rattle.crew_solve.specs.Solutions.{ShowSame}
use Rattle.crew_solve.specs.crew_sweep.Sweeps.{BaseSweep}
use Rattle.crew_fronts.specs.Fronts.{BaseFronts, front_at}
use Rattle.crew_fronts.specs.Machinery.Bases.{fronts_of}
use Rattle.crew_fronts.proofs.Sweeps.{alike-at}
use Rattle.crew_fronts.proofs.base_fronts.BaseFronts.leaves_alike.Goals as goal

pub returns-in-Swept-Swept : goal.returns-in-Swept-Swept
returns-in-Swept-Swept c = λ yes settings price d at m n.
    let one = c.in-Swept-Swept.one.value in
    let other = c.in-Swept-Swept.other.value in
    let own = ap fronts_of (sym c.in-Swept-Swept.is-0) ∙ c.self.view_is in
    let others = ap fronts_of (sym c.in-Swept-Swept.is-1) ∙ c.other.view_is in
    let rise = subst (λ (b : BaseSweep). RiseByKey b.net.duties) c.deref.ensures c.net_of.ensures.rise in
    let rise_other = subst (λ (b : BaseSweep). RiseByKey b.net.duties) c.deref-in-Swept-Swept.ensures c.net_of-in-Swept-Swept.ensures.rise in
    let here = subst (λ (b : BaseFronts). Member b.net.duties d) (sym own) m in
    let there = subst (λ (b : BaseFronts). Member b.net.duties d) (sym others) n in
    let alike : one.net.settings ≡ other.net.settings → one.price ≡ other.price → ShowSame one other d =
    subst (λ (b : BaseSweep). b.net.settings ≡ other.net.settings → b.price ≡ other.price → ShowSame b other d) c.deref-in-Swept-Swept-2.ensures
    (subst (λ (b : BaseSweep). c.deref-in-Swept-Swept-2.result.now.net.settings ≡ b.net.settings → c.deref-in-Swept-Swept-2.result.now.price ≡ b.price → ShowSame c.deref-in-Swept-Swept-2.result.now b d) c.deref-in-Swept-Swept-3.ensures
    (λ x y. c.leaves_alike.ensures yes x y d at)) in
    let same = alike
    (ap (λ (b : BaseFronts). b.net.settings) own ∙ (settings ∙ ap (λ (b : BaseFronts). b.net.settings) (sym others)))
    (ap (λ (b : BaseFronts). b.price) own ∙ (price ∙ ap (λ (b : BaseFronts). b.price) (sym others))) in
    ap (λ b. front_at b d) (sym own) ∙ (alike-at one other d rise rise_other here there same ∙ ap (λ b. front_at b d) others)
