use Rattle.std.proofs.Common.{◌≡◌, ◌∙◌, ap, refl, sym, subst, true≢false}
use Rattle.std.proofs.lemmas.Bool.{and_from, and_parts}
use Rattle.crew_machine.specs.Crew.{DutyNode}
use Rattle.crew_net.specs.Nets.{Net}
use Rattle.crew_resource.specs.Members.{Member}
use Rattle.crew_version.specs.Versions.{timetable_of}
use Rattle.crew_job.proofs.FoundDuties.{found-there}
use Rattle.crew_job.proofs.SealedNodes.{net-of-node, no-node, node-of-net}
use Rattle.crew_job.proofs.kept.has_node.Goals as goal

pub returns-in-Some : goal.returns-in-Some
returns-in-Some c =
    let v = c.args.sealed.now in
    let n : DutyNode = record { base = c.args.code; duty = c.args.duty.now } in
    let solution = c.in-Some.solution.now in
    let net : c.net-net.result.now ≡ solution.net = c.net-net.ensures in
    let base = found-there c.bases.result.now c.args.code c.base_place.result c.is_some.result c.is_some.ensures c.base_place.ensures in
    let duty = found-there c.net-net.result.now.duties c.args.duty.now c.duty_rank.result c.is_some-in-Some.result c.is_some-in-Some.ensures c.duty_rank.ensures in
    let bases = c.bases.ensures ∙ ap (λ (z : Net). z.bases) net in (
      λ t.
          let k = and_parts _ _ t in
          node-of-net v.settings (timetable_of v.entries) solution n c.in-Some.ensures.network (subst (λ l. Member l n.base) bases (base.0 k.0)) (subst (λ (z : Net). Member z.duties n.duty) net (duty.0 k.1)),
      λ is.
          let m = net-of-node v.settings (timetable_of v.entries) solution n c.in-Some.ensures.network is in
          and_from _ _ (base.1 (subst (λ l. Member l n.base) (sym bases) m.0)) (duty.1 (subst (λ (z : Net). Member z.duties n.duty) (sym net) m.1)),
    )

pub returns-in-None : goal.returns-in-None
returns-in-None c =
    let v = c.args.sealed.now in
    let n : DutyNode = record { base = c.args.code; duty = c.args.duty.now } in
    (λ t. absurd (true≢false (sym t)), λ is. absurd (no-node v.settings (timetable_of v.entries) n c.settings-settings.ensures.checked (c.in-None.ensures.none refl) is))
