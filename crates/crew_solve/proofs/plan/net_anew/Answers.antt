use Rattle.std.proofs.Common.{◌≤◌, List, length, subst, sym}
use Rattle.std.proofs.lemmas.Result.{IfOk-weaker}
use Rattle.crew_net.specs.Nets.{IsNetOf}
use Rattle.crew_pairing.specs.Duties.{AreDuties}
use Rattle.crew_pairing.specs.declared.duty.Duty.{Duty}
use Rattle.crew_solve.proofs.plan.net_anew.Goals as goal

pub build-requires-clause-duties : goal.build-requires-clause-duties
build-requires-clause-duties c = subst (AreDuties c.args.settings.now c.args.timetable.now) (sym c.in_ok-duties.ensures) c.requires.duties

pub build-requires-clause-few : goal.build-requires-clause-few
build-requires-clause-few c = subst (λ (ds : List Duty). length ds ≤ 200_000) (sym c.in_ok-duties.ensures) c.requires.few

pub returns : goal.returns
returns c =
    let s = c.args.settings.now in
    let t = c.args.timetable.now in
    let built = subst (λ ds. IsNetOf s t ds c.in_ok-build.field-0) c.in_ok-duties.ensures c.in_ok-build.ensures in
    IfOk-weaker c.shared_net.result _ _ (λ net is. subst (IsNetOf s t c.args.duties) (sym is) built) c.shared_net.ensures
