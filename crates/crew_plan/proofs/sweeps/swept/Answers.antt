use Rattle.std.proofs.Common.{◌≡◌, ◌∙◌, sym, subst}
use Rattle.std.specs.Arc.{arc_value}
use Rattle.crew_fronts.specs.crew_answers.Schedules.{IsDated}
use Rattle.crew_flights.specs.Timetable.{IsSound, Timetable}
use Rattle.crew_fronts.specs.Fronts.{BaseFronts, ShowsFronts}
use Rattle.crew_net.specs.Nets.{Net}
use Rattle.crew_pairing.specs.Duties.{AreDuties}
use Rattle.crew_plan.proofs.sweeps.swept.Goals as goal

abbrev AreRight : BaseFronts → Type 0
AreRight b = (t : Timetable) → IsSound t → IsDated t → AreDuties b.net.settings t b.net.duties → ShowsFronts t b

pub returns : goal.returns
returns c =
    let k = c.in_ok-sweep.ensures in
    let f = c.in_ok-fronts.ensures in
    let b : BaseFronts = arc_value c.in_ok-fronts.fronts in
    let right : AreRight b = subst AreRight c.deref.ensures c.net-net.ensures.right in
    let own : (b.base, b.price) ≡ ((arc_value c.in_ok-sweep.sweep).base, (arc_value c.in_ok-sweep.sweep).price) = λ i. (f.base i, f.price i) in
    let net = f.net ∙ k.2.net in (
      k.0,
      k.1,
      record {
        own = own ∙ k.2.base;
        same = net;
        fronts = λ t sound dated duties. right t sound dated (subst (λ (n : Net). AreDuties n.settings t n.duties) (sym net) duties);
      },
    )
