use Rattle.std.proofs.Common.{◌∙◌, ap, map, subst, sym}
use Rattle.std.proofs.lemmas.Result.{IfOk-weaker}
use Rattle.std.specs.Arc.{arc_value}
use Rattle.std.specs.List.{flat_map}
use Rattle.crew_fronts.specs.Fronts.{BaseFronts}
use Rattle.crew_net.specs.Nets.{Net}
use Rattle.crew_plan.proofs.Answering.{apart-home}
use Rattle.crew_plan.proofs.Shorter.{answer-too, apart-too}
use Rattle.crew_plan.specs.Apart.{AreApart}
use Rattle.crew_plan.specs.Machinery.Homes.{AreFirstApart, home_of}
use Rattle.crew_plan.specs.Machinery.Kept.{IsSolved}
use Rattle.crew_plan.specs.Machinery.Kinds.{IsMadeAs, best_of, net_of}
use Rattle.crew_plan.specs.Solutions.{Solution}
use Rattle.crew_plan.specs.declared.solution.Made.{Made}
use Rattle.crew_rules.specs.declared.settings.Settings.{Settings}
use Rattle.crew_fronts.specs.crew_solve.Apart as Plain
use Rattle.crew_plan.proofs.solution.Solution.apart.Goals as goal

pub returns-in-Plain : goal.returns-in-Plain
returns-in-Plain c =
    let bases = map (arc_value {X = BaseFronts}) c.self.inside.bases.items in
    let kept = subst (λ (m : Made). IsSolved (net_of m) bases × IsMadeAs m bases) c.in-Plain.is c.self.invariant in
    let same = sym c.self.view_is ∙ ap (λ (m : Made). let x : Solution = record { net = net_of m; bases = bases; best = best_of m } in x) c.in-Plain.is in
    IfOk-weaker c.apart.result _ _ (λ pairings right.
    answer-too c.in-Plain.solution bases c.args.self.now kept.0 kept.1 same (λ s t. Plain.AreApart s t c.args.limit c.args.share pairings.items) (λ s t. AreApart s t c.args.limit c.args.share pairings.items)
    (λ s t sound plain h. apart-too s t sound plain c.args.limit c.args.share pairings.items h) right) c.apart.ensures

pub returns-in-Long : goal.returns-in-Long
returns-in-Long c =
    let net = arc_value c.in-Long.net in
    let bases = map (arc_value {X = BaseFronts}) c.self.inside.bases.items in
    let kept = subst (λ (m : Made). IsSolved (net_of m) bases × IsMadeAs m bases) c.in-Long.is c.self.invariant in
    let same = sym c.self.view_is ∙ ap (λ (m : Made). let x : Solution = record { net = net_of m; bases = bases; best = best_of m } in x) c.in-Long.is in
    let rate = ap (λ (x : Settings). x.trip_rig) (c.settings.ensures.value ∙ ap (λ (n : Net). n.settings) c.deref-in-Long.ensures) in
    let home = ap (λ l. flat_map (home_of c.settings.result.now.trip_rig) (map (arc_value {X = BaseFronts}) l)) c.deref.ensures.value ∙ ap (λ r. flat_map (home_of r) bases) rate in
    IfOk-weaker c.apart_of.result _ _ (λ pairings first.
    apart-home net bases c.in-Long.field-1 c.args.self.now kept.0 same c.args.limit c.args.share pairings.items (subst (λ l. AreFirstApart c.args.limit c.args.share l pairings.items) home first)) c.apart_of.ensures
