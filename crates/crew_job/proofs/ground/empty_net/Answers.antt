use Rattle.std.proofs.Common.{◌≡◌, ◌≤◌, ◌∙◌, List, [], length, sym, subst, arith}
use Rattle.std.specs.Arc.{arc_value}
use Rattle.std.proofs.lemmas.Result.{IfOk-weaker}
use Rattle.crew_dirty.specs.Dirty.{IsNetOver}
use Rattle.crew_flights.specs.Timetable.{Timetable}
use Rattle.crew_net.specs.Nets.{IsNetOf}
use Rattle.crew_pairing.specs.declared.duty.Duty.{Duty}
use Rattle.crew_job.proofs.SealedNodes.{net-over, no-duties-over}
use Rattle.crew_job.proofs.ground.empty_net.Goals as goal

pub build-requires-clause-duties : goal.build-requires-clause-duties
build-requires-clause-duties c =
    let list : arc_value c.in-Ok.duties ≡ [] = c.in-Ok.ensures.ok ∙ c.new.ensures in
    no-duties-over c.settings.result.now _ c.timetable.result.now (arc_value c.in-Ok.duties) c.settings.ensures.checked c.settings.ensures.value (c.timetable.ensures ∙ c.requires) list

pub returns-in-Ok : goal.returns-in-Ok
returns-in-Ok c =
    let s = c.settings.result.now in
    let ds = arc_value c.in-Ok.duties in
    let t = c.timetable.result.now in
    let list : ds ≡ [] = c.in-Ok.ensures.ok ∙ c.new.ensures in
    let are = no-duties-over s _ t ds c.settings.ensures.checked c.settings.ensures.value (c.timetable.ensures ∙ c.requires) list in
    let few : length ds ≤ 200_000 = subst (λ (l : List Duty). length l ≤ 200_000) (sym list) (omega arith) in
    IfOk-weaker c.build.result (IsNetOf s t ds) _ (λ net is. (is.settings ∙ c.settings.ensures.value, subst (λ (z : Timetable). IsNetOver z net) c.timetable.ensures (net-over s t ds net is are few))) c.build.ensures
