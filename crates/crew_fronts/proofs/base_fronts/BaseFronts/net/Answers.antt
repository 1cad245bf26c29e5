use Rattle.std.proofs.Common.{◌∙◌, ap, sym, subst}
use Rattle.crew_answers.specs.Schedules.{IsDated}
use Rattle.crew_flights.specs.Timetable.{IsSound, Timetable}
use Rattle.crew_pairing.specs.Duties.{AreDuties, RiseByKey}
use Rattle.crew_solve.specs.crew_sweep.Sweeps as Sweeps
use Rattle.crew_solve.specs.crew_sweep.Sweeps.{BaseSweep}
use Rattle.crew_fronts.specs.Fronts.{BaseFronts, ShowsFronts}
use Rattle.crew_fronts.specs.Machinery.Bases.{IsOfKind, fronts_of}
use Rattle.crew_fronts.proofs.Sweeps.{plain-away, sweep-right}
use Rattle.crew_fronts.proofs.base_fronts.BaseFronts.net.Goals as goal

pub returns-in-Swept-clause-right : goal.returns-in-Swept-clause-right
returns-in-Swept-clause-right c =
    let b = c.in-Swept.fronts.value in
    let s = b.net.settings in
    let own = ap fronts_of (sym c.in-Swept.is) ∙ c.self.view_is in
    let plain = subst IsOfKind c.in-Swept.is c.self.invariant in
    let rise = subst (λ (b : BaseSweep). RiseByKey b.net.duties) c.deref.ensures c.net_of.ensures.rise in
    let stays = c.short_settings_stay.ensures s (plain-away s plain) in
    let shows : (t : Timetable) → IsSound t → AreDuties s t b.net.duties → Sweeps.ShowsFronts t b =
    subst (λ (b : BaseSweep). (t : Timetable) → IsSound t → AreDuties b.net.settings t b.net.duties → Sweeps.ShowsFronts t b) c.deref-in-Swept.ensures c.net.ensures.right in
    subst (λ (f : BaseFronts). (t : Timetable) → IsSound t → IsDated t → AreDuties f.net.settings t f.net.duties → ShowsFronts t f) own
    (λ t sound dated are. sweep-right b plain rise stays t (λ d es short front. c.short_fronts_are_as_before.ensures.long s t b.base b.price d es sound short front) are (shows t sound are))

pub returns-in-Passed-clause-right : goal.returns-in-Passed-clause-right
returns-in-Passed-clause-right c =
    let own = ap fronts_of (sym c.in-Passed.is) ∙ c.self.view_is in
    subst (λ (f : BaseFronts). (t : Timetable) → IsSound t → IsDated t → AreDuties f.net.settings t f.net.duties → ShowsFronts t f) own c.net-net.ensures.right
