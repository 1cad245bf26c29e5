use Rattle.std.proofs.Common.{◌≤◌, ◌∙◌, List, length, subst, sym}
use Rattle.std.specs.Arc.{arc_value}
use Rattle.crew_net.specs.Nets.{IsNetOf}
use Rattle.crew_pairing.specs.declared.duty.Duty.{Duty}
use Rattle.crew_solve.proofs.Results.{ok-both}
use Rattle.crew_solve.proofs.Swept.{over-of}
use Rattle.crew_solve.proofs.plan.Plan.of.Goals as goal

pub over-requires-clause-over : goal.over-requires-clause-over
over-requires-clause-over c =
    let t = c.args.timetable.now in
    let net = arc_value c.in_ok-net.net in
    let built = c.in_ok-net.ensures in
    let few : length net.duties ≤ 200_000 = subst (λ (ds : List Duty). length ds ≤ 200_000) (sym built.duties) c.requires.few in
    (t, over-of c.args.settings.now t c.args.duties net c.requires.checked c.bases_of.ensures.sound c.requires.duties built few, c.in_ok-bases.ensures.bases)

pub returns-clause-plan : goal.returns-clause-plan
returns-clause-plan c =
    ok-both c.over.result _ _ _ (λ plan net prices. record {
      network = (c.args.duties, c.requires.duties, subst (IsNetOf c.args.settings.now c.args.timetable.now c.args.duties) (sym net) c.in_ok-net.ensures);
      prices = prices ∙ c.in_ok-bases.ensures.bases;
    }) c.over.ensures.net c.over.ensures.prices
