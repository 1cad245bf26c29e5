use Rattle.std.proofs.Common.{ℕ, List, subst}
use Rattle.std.proofs.lemmas.Result.{IfOk-weaker}
use Rattle.crew_resource.specs.Members.{Member}
use Rattle.crew_sweep.specs.Machinery.Lanes.{AreLanes}
use Rattle.crew_sweep.specs.declared.windows.Waiting.{Waiting}
use Rattle.crew_sweep.proofs.lanes.lanes_in_groups.Goals as goal

pub returns : goal.returns
returns c walks made held over =
    let net = c.args.ground.now.net.now in
    let first : AreLanes net walks made held c.in_ok-lanes.lanes.items = λ lane m. let is = c.in_ok-lanes.ensures.lanes lane m in record {
      over = over lane.slide is.0;
      within = λ p k. absurd (subst (λ (ps : List ℕ). Member ps p) is.1 k);
      ahead = λ w k. absurd (subst (λ (ws : List Waiting). Member ws w) is.2 k);
    } in
    let given = c.in_ok-give_positions.ensures walks made held first in
    IfOk-weaker c.grouped.result _ _ (λ groups of group m lane k. given lane (of group m lane k)) c.grouped.ensures
