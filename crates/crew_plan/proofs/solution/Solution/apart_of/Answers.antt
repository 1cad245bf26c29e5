use Rattle.std.proofs.Common.{◌∙◌, ap, map, subst, sym}
use Rattle.std.proofs.lemmas.Result.{IfOk-weaker}
use Rattle.std.specs.Arc.{arc_value}
use Rattle.std.specs.List.{flat_map}
use Rattle.crew_fronts.specs.Fronts.{BaseFronts}
use Rattle.crew_net.specs.Nets.{Net}
use Rattle.crew_plan.proofs.Answering.{apart-at}
use Rattle.crew_plan.specs.Machinery.Homes.{AreFirstApart, IsPayable, alone, home_of}
use Rattle.crew_resource.specs.Members.{Each}
use Rattle.crew_rules.specs.declared.settings.Settings.{Settings}
use Rattle.crew_plan.proofs.solution.Solution.apart_of.Goals as goal

pub apart_of-requires : goal.apart_of-requires
apart_of-requires c =
    let rate = ap (λ (x : Settings). x.trip_rig) (c.settings.ensures.value ∙ ap (λ (n : Net). n.settings) c.net.ensures) in
    subst (λ r. Each (IsPayable r) (map (arc_value {X = BaseFronts}) c.alone.result.now)) (sym rate) c.alone.ensures.pay

pub returns : goal.returns
returns c =
    let x = c.args.self.now in
    let rate = ap (λ (x : Settings). x.trip_rig) (c.settings.ensures.value ∙ ap (λ (n : Net). n.settings) c.net.ensures) in
    let home = ap (λ l. flat_map (home_of c.settings.result.now.trip_rig) l) c.alone.ensures.fronts ∙ ap (λ r. flat_map (home_of r) (alone c.args.base x.bases)) rate in
    IfOk-weaker c.apart_of.result _ _ (λ pairings first.
    apart-at x c.alone.ensures.solved c.args.base c.args.limit c.args.share pairings.items (subst (λ l. AreFirstApart c.args.limit c.args.share l pairings.items) home first)) c.apart_of.ensures
