use Rattle.std.proofs.Common.{◌≡◌, ◌∙◌, List, None, ap, false, map, subst, sym}
use Rattle.std.specs.Arc.{arc_value}
use Rattle.std.specs.List.{flat_map}
use Rattle.crew_fronts.specs.Fronts.{BaseFronts, is_plain}
use Rattle.crew_net.specs.Nets.{Net}
use Rattle.crew_plan.proofs.Answering.{passed-in}
use Rattle.crew_plan.proofs.Placed.{all-payable, all-solved, keys-of}
use Rattle.crew_plan.specs.Machinery.Homes.{IsPayable, home_of}
use Rattle.crew_plan.specs.Machinery.Kept.{IsSolved}
use Rattle.crew_resource.specs.Members.{Each}
use Rattle.crew_rules.specs.declared.settings.Settings.{Settings}
use Rattle.crew_fronts.specs.crew_solve.Machinery.Homes.{least_of}
use Rattle.crew_plan.proofs.solution.Solution.passed.Goals as goal

pub best_of-requires : goal.best_of-requires
best_of-requires c =
    let plan = c.args.plan.now in
    let laid = c.net.ensures.laid in
    let bases : List BaseFronts = map arc_value c.args.bases.items in
    let same = c.in_ok-net.ensures ∙ c.net.ensures.net in
    let pay = all-payable laid.timetable plan bases laid.over laid.dated laid.priced c.requires in
    let rate = ap (λ (x : Settings). x.trip_rig) (c.settings.ensures.value ∙ ap (λ (n : Net). n.settings) (c.deref.ensures ∙ same)) in
    subst (λ l. Each (IsPayable c.settings.result.now.trip_rig) (map (arc_value {X = BaseFronts}) l)) (sym c.deref-2.ensures.value) (subst (λ r. Each (IsPayable r) bases) (sym rate) pay)

pub invariant_of-result : goal.invariant_of-result
invariant_of-result c =
    let plan = c.args.plan.now in
    let laid = c.net.ensures.laid in
    let bases : List BaseFronts = map arc_value c.args.bases.items in
    let same = c.in_ok-net.ensures ∙ c.net.ensures.net in
    let pay = all-payable laid.timetable plan bases laid.over laid.dated laid.priced c.requires in (
      subst (λ (n : Net). IsSolved n bases) (sym same) (all-solved plan bases c.requires (keys-of plan.net plan.prices laid)),
      record {
        long = subst (λ (n : Net). is_plain n.settings ≡ false) (sym same) laid.long;
        pay = subst (λ (n : Net). Each (IsPayable n.settings.trip_rig) bases) (sym same) pay;
      },
    )

pub returns : goal.returns
returns c =
    let plan = c.args.plan.now in
    let laid = c.net.ensures.laid in
    let bases : List BaseFronts = map arc_value c.args.bases.items in
    let net = arc_value c.in_ok-net.net in
    let same = c.in_ok-net.ensures ∙ c.net.ensures.net in
    let rate = ap (λ (x : Settings). x.trip_rig) (c.settings.ensures.value ∙ ap (λ (n : Net). n.settings) (c.deref.ensures ∙ same)) in
    let best = c.in_ok-best.ensures
    ∙ (ap (λ l. least_of None (flat_map (home_of c.settings.result.now.trip_rig) (map (arc_value {X = BaseFronts}) l))) c.deref-2.ensures.value
    ∙ ap (λ r. least_of None (flat_map (home_of r) bases)) rate) in
    passed-in plan (record { net = net; bases = bases; best = c.in_ok-best.best }) laid c.requires same best
