use Rattle.std.proofs.Common.{◌∙◌, List, ap, map, subst, sym}
use Rattle.std.specs.Arc.{arc_value}
use Rattle.crew_fronts.specs.Fronts.{BaseFronts}
use Rattle.crew_plan.proofs.Among.{each-alone}
use Rattle.crew_plan.proofs.Paying.{all-pay-in}
use Rattle.crew_plan.specs.Machinery.Homes.{IsPayable, alone}
use Rattle.crew_plan.specs.Machinery.Kept.{IsSolved}
use Rattle.crew_plan.specs.Machinery.Kinds.{net_of}
use Rattle.crew_plan.specs.Solutions.{Solution}
use Rattle.crew_resource.specs.Members.{Each}
use Rattle.crew_plan.proofs.solution.Solution.alone.Goals as goal

pub returns-clause-fronts : goal.returns-clause-fronts
returns-clause-fronts c =
    c.alone.ensures
    ∙ (ap (λ l. alone c.args.base (map (arc_value {X = BaseFronts}) l)) c.deref.ensures.value
    ∙ ap (λ (s : Solution). alone c.args.base s.bases) c.self.view_is)

pub returns-clause-pay : goal.returns-clause-pay
returns-clause-pay c =
    let bases : List BaseFronts = map arc_value c.self.inside.bases.items in
    let rate = (net_of c.self.inside.made).settings.trip_rig in
    let fronts = c.alone.ensures ∙ ap (λ l. alone c.args.base (map (arc_value {X = BaseFronts}) l)) c.deref.ensures.value in
    let own : Each (IsPayable rate) (alone c.args.base bases) = each-alone (IsPayable rate) bases c.args.base (all-pay-in c.self.inside.made bases c.self.invariant.1) in
    subst (λ r. Each (IsPayable r) (map (arc_value {X = BaseFronts}) c.alone.result.now)) (ap (λ (s : Solution). s.net.settings.trip_rig) c.self.view_is)
    (subst (Each (IsPayable rate)) (sym fronts) own)

pub returns-clause-solved : goal.returns-clause-solved
returns-clause-solved c = subst (λ (s : Solution). IsSolved s.net s.bases) c.self.view_is c.self.invariant.0
