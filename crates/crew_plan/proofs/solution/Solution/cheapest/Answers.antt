use Rattle.std.proofs.Common.{◌∙◌, ap, map, subst, sym}
use Rattle.std.proofs.lemmas.Result.{IfOk-weaker}
use Rattle.std.specs.Arc.{arc_value}
use Rattle.crew_fronts.specs.Fronts.{BaseFronts}
use Rattle.crew_net.specs.Nets.{Net}
use Rattle.crew_plan.proofs.Answering.{cheapest-home}
use Rattle.crew_plan.proofs.Shorter.{answer-too, cheapest-too}
use Rattle.crew_plan.specs.Cheapest.{AreCheapest}
use Rattle.crew_plan.specs.Machinery.Homes.{first_home}
use Rattle.crew_plan.specs.Machinery.Kept.{IsSolved}
use Rattle.crew_plan.specs.Machinery.Kinds.{IsMadeAs, best_of, net_of}
use Rattle.crew_plan.specs.Solutions.{Solution}
use Rattle.crew_plan.specs.declared.solution.Made.{Made}
use Rattle.crew_rules.specs.declared.settings.Settings.{Settings}
use Rattle.crew_fronts.specs.crew_solve.Cheapest as Plain
use Rattle.crew_plan.proofs.solution.Solution.cheapest.Goals as goal

pub returns-in-Plain : goal.returns-in-Plain
returns-in-Plain c =
    let bases = map (arc_value {X = BaseFronts}) c.self.inside.bases.items in
    let kept = subst (λ (m : Made). IsSolved (net_of m) bases × IsMadeAs m bases) c.in-Plain.is c.self.invariant in
    let same = sym c.self.view_is ∙ ap (λ (m : Made). let x : Solution = record { net = net_of m; bases = bases; best = best_of m } in x) c.in-Plain.is in
    IfOk-weaker c.cheapest.result _ _ (λ pairings right.
    answer-too c.in-Plain.solution bases c.args.self.now kept.0 kept.1 same (λ s t. Plain.AreCheapest s t c.args.limit pairings.items) (λ s t. AreCheapest s t c.args.limit pairings.items)
    (λ s t sound plain h. cheapest-too s t sound plain c.args.limit pairings.items h) right) c.cheapest.ensures

pub returns-in-Long : goal.returns-in-Long
returns-in-Long c =
    let net = arc_value c.in-Long.net in
    let bases = map (arc_value {X = BaseFronts}) c.self.inside.bases.items in
    let kept = subst (λ (m : Made). IsSolved (net_of m) bases × IsMadeAs m bases) c.in-Long.is c.self.invariant in
    let same = sym c.self.view_is ∙ ap (λ (m : Made). let x : Solution = record { net = net_of m; bases = bases; best = best_of m } in x) c.in-Long.is in
    let rate = ap (λ (x : Settings). x.trip_rig) (c.settings.ensures.value ∙ ap (λ (n : Net). n.settings) c.deref-in-Long.ensures) in
    let all = ap (λ l. first_home c.args.limit c.settings.result.now.trip_rig (map (arc_value {X = BaseFronts}) l)) c.deref.ensures.value ∙ ap (λ r. first_home c.args.limit r bases) rate in
    IfOk-weaker c.cheapest_of.result _ _ (λ pairings is. cheapest-home net bases c.in-Long.field-1 c.args.self.now kept.0 same c.args.limit pairings.items (is ∙ all)) c.cheapest_of.ensures
