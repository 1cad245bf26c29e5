use Rattle.std.proofs.Common.{◌≡◌, ◌∙◌, Some, sym, subst, true}
use Rattle.std.specs.Prelude.{slice_get}
use Rattle.crew_pairing.specs.Pairings.{may_stand_after}
use Rattle.crew_pairing.specs.declared.duty.Duty.{Duty}
use Rattle.crew_net.specs.Nets.{Net}
use Rattle.crew_resource.proofs.Members.{Member-at}
use Rattle.crew_rules.specs.declared.settings.Settings.{Settings}
use Rattle.crew_machine.specs.Crew.{DutyNode}
use Rattle.crew_job.proofs.Comparing.{alike-before, same-fronts-told}
use Rattle.crew_job.specs.Machinery.Compared.{HasSameFront}
use Rattle.crew_job.proofs.own.has_same_front_at.Goals as goal

pub front_before-requires : goal.front_before-requires
front_before-requires c =
    let g = c.args.ground.now in
    let e = c.duty-before.result.now in
    let there : slice_get g.plan.net.duties c.args.rank ≡ Some e = subst (λ (z : Net). slice_get z.duties c.args.rank ≡ Some e) c.net.ensures.net c.duty-before.ensures in
    let may : may_stand_after g.settings e c.args.duty.now ≡ true = subst (λ (z : Settings). may_stand_after z e c.args.duty.now ≡ true) c.settings.ensures.settings (sym c.may_follow.ensures ∙ c.if-not-may_follow.false) in
    alike-before c.args.job.now g c.ground-own.ensures.ground c.args.code c.args.duty.now c.args.base c.requires.alike e (Member-at g.plan.net.duties c.args.rank e there) may

pub returns : goal.returns
returns c =
    let g = c.args.ground.now in
    let job = c.args.job.now in
    let x = c.duty-before.result.now in
    let there : slice_get g.plan.net.duties c.args.rank ≡ Some x = subst (λ (z : Net). slice_get z.duties c.args.rank ≡ Some x) c.net.ensures.net c.duty-before.ensures in
    let may : may_stand_after g.settings x c.args.duty.now ≡ true = subst (λ (z : Settings). may_stand_after z x c.args.duty.now ≡ true) c.settings.ensures.settings (sym c.may_follow.ensures ∙ c.if-not-may_follow.false) in
    let p : Duty → DutyNode = λ e. record { base = c.args.code; duty = e } in (
      λ t e at _.
          let same : x ≡ e = some-same x e (sym there ∙ at) in
          subst (λ (z : Duty). HasSameFront job.ground g (p z)) same (same-fronts-told job.ground g c.ground-own.ensures.ground c.net.ensures.ground (p x) c.front_before.result c.shown_front-front.result c.front_before.ensures c.shown_front-front.ensures (c.is_same_front.ensures.0 t)),
      λ h. c.is_same_front.ensures.1 (h x there may c.front_before.result c.shown_front-front.result c.front_before.ensures c.shown_front-front.ensures),
    )
  where
    some-same : (x y : Duty) → Some x ≡ Some y → x ≡ y
    some-same x y e = cc
