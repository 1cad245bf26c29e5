use Rattle.std.proofs.Common.{◌≤◌, List, length, subst, sym}
use Rattle.std.proofs.lemmas.Result.{IfOk-weaker}
use Rattle.crew_net.specs.Nets.{IsNetOf}
use Rattle.crew_pairing.specs.Duties.{AreDuties}
use Rattle.crew_pairing.specs.declared.duty.Duty.{Duty}
use Rattle.crew_solve.proofs.plan.net_beside.Goals as goal

pub next-requires-clause-duties : goal.next-requires-clause-duties
next-requires-clause-duties c = subst (AreDuties c.args.earlier.now.settings c.args.timetable.now) (sym c.in_ok-duties.ensures) c.requires.duties

pub next-requires-clause-few : goal.next-requires-clause-few
next-requires-clause-few c = subst (λ (ds : List Duty). length ds ≤ 200_000) (sym c.in_ok-duties.ensures) c.requires.few

pub returns : goal.returns
returns c =
    let s = c.args.earlier.now.settings in
    let t = c.args.timetable.now in
    let built = subst (λ ds. IsNetOf s t ds c.in_ok-next.field-0) c.in_ok-duties.ensures c.in_ok-next.ensures in
    IfOk-weaker c.shared_net.result _ _ (λ net is. subst (IsNetOf s t c.args.duties) (sym is) built) c.shared_net.ensures
