use Rattle.std.proofs.Common.{◌∙◌, ap, map, subst, sym}
use Rattle.std.proofs.lemmas.Result.{IfOk-weaker}
use Rattle.std.specs.Arc.{arc_value}
use Rattle.crew_fronts.specs.Fronts.{BaseFronts}
use Rattle.crew_net.specs.Nets.{Net}
use Rattle.crew_plan.proofs.Answering.{cheapest-at}
use Rattle.crew_plan.specs.Machinery.Homes.{IsPayable, alone, first_home}
use Rattle.crew_resource.specs.Members.{Each}
use Rattle.crew_rules.specs.declared.settings.Settings.{Settings}
use Rattle.crew_plan.proofs.solution.Solution.cheapest_of.Goals as goal

pub cheapest_of-requires : goal.cheapest_of-requires
cheapest_of-requires c =
    let rate = ap (λ (x : Settings). x.trip_rig) (c.settings.ensures.value ∙ ap (λ (n : Net). n.settings) c.net.ensures) in
    subst (λ r. Each (IsPayable r) (map (arc_value {X = BaseFronts}) c.alone.result.now)) (sym rate) c.alone.ensures.pay

pub returns : goal.returns
returns c =
    let x = c.args.self.now in
    let rate = ap (λ (x : Settings). x.trip_rig) (c.settings.ensures.value ∙ ap (λ (n : Net). n.settings) c.net.ensures) in
    let home = ap (first_home c.args.limit c.settings.result.now.trip_rig) c.alone.ensures.fronts ∙ ap (λ r. first_home c.args.limit r (alone c.args.base x.bases)) rate in
    IfOk-weaker c.cheapest_of.result _ _ (λ pairings is. cheapest-at x c.alone.ensures.solved c.args.base c.args.limit pairings.items (is ∙ home)) c.cheapest_of.ensures
