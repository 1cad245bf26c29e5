use Rattle.std.proofs.Common.{◌≡◌, ◌≤◌, List, false, length, map, subst, sym}
use Rattle.std.specs.Arc.{arc_value}
use Rattle.crew_fronts.specs.Fronts.{BaseFronts, is_plain}
use Rattle.crew_net.specs.Nets.{Net}
use Rattle.crew_pairing.specs.declared.duty.Duty.{Duty}
use Rattle.crew_plan.specs.Machinery.Kept.{IsLaid}
use Rattle.crew_resource.specs.Members.{Each}
use Rattle.crew_fronts.proofs.crew_solve_lemmas.Swept.{over-of}
use Rattle.crew_plan.proofs.long_plan.LongPlan.of.Goals as goal

pub invariant_of-result : goal.invariant_of-result
invariant_of-result c =
    let t = c.args.timetable.now in
    let net = arc_value c.in_ok-net.net in
    let built = c.in_ok-net.ensures.net in
    let few : length net.duties ≤ 200_000 = subst (λ (ds : List Duty). length ds ≤ 200_000) (sym built.duties) c.requires.few in
    let laid : IsLaid net c.in_ok-bases.bases.items = record {
      timetable = t;
      over = over-of c.args.settings.now t c.args.duties net c.requires.checked c.bases_of.ensures.sound c.requires.duties built few;
      dated = c.see_dates.ensures.dated;
      priced = c.in_ok-bases.ensures.bases;
      long = subst (λ x. is_plain x ≡ false) (sym built.settings) c.requires.long;
    } in (
      subst (λ (n : Net). IsLaid n c.in_ok-bases.bases.items) (sym c.in_ok-course.ensures) laid,
      subst (λ (n : Net). Each (λ (b : BaseFronts). b.net ≡ n) (map arc_value c.in_ok-net.past.items)) (sym c.in_ok-course.ensures) c.in_ok-net.ensures.past,
    )
