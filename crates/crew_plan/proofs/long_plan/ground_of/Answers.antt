use Rattle.std.proofs.Common.{◌≡◌, ◌∙◌, map, subst, sym}
use Rattle.std.specs.Arc.{arc_value}
use Rattle.crew_fronts.specs.Fronts.{BaseFronts}
use Rattle.crew_net.specs.Nets.{IsNetOf, Net}
use Rattle.crew_resource.specs.Members.{Each}
use Rattle.crew_plan.proofs.long_plan.ground_of.Goals as goal

pub returns-then-is_of-clause-net : goal.returns-then-is_of-clause-net
returns-then-is_of-clause-net c =
    let same = c.in_ok-try_clone.ensures ∙ sym c.deref.ensures in
    let own = c.is_of.ensures c.if-is_of.true c.args.timetable.now c.requires.bases in
    subst (IsNetOf c.args.settings.now c.args.timetable.now c.args.duties) (sym same) own

pub returns-then-is_of-clause-past : goal.returns-then-is_of-clause-past
returns-then-is_of-clause-past c =
    let all = c.in_ok-shared.ensures in
    let net = c.in_ok-try_clone.ensures in
    subst (λ (n : Net). Each (λ (b : BaseFronts). b.net ≡ n) (map arc_value c.in_ok-shared.field-0.items)) (sym net)
    (subst (Each (λ (b : BaseFronts). b.net ≡ arc_value c.in-Some.net.now)) (sym all) c.in-Some.ensures)
