use Rattle.std.proofs.Common.{◌≡◌, ◌∙◌, ℕ, List, ap, sym, subst}
use Rattle.crew_job.proofs.Leaving.{leaves-as-sealed}
use Rattle.crew_job.proofs.Planned.{net-settings}
use Rattle.crew_job.specs.Grounds.{sealed_data_of}
use Rattle.crew_job.specs.Shown.{LeavesAsSealed}
use Rattle.crew_net.specs.Nets.{Net}
use Rattle.crew_pairing.specs.Events.{departure_of}
use Rattle.crew_pairing.specs.declared.duty.Duty.{Duty}
use Rattle.crew_rules.specs.declared.settings.Settings.{Settings}
use Rattle.crew_version.specs.crew_plan.Solutions.{HasNetOf, front_of}
use Rattle.crew_version.specs.crew_fronts.Fronts.{front_at}
use Rattle.crew_dirty.specs.crew_answers.Bests.{AreFronts}
use Rattle.crew_resource.specs.Members.{Member}
use Rattle.crew_version.specs.Versions.{Snapshot, timetable_of}
use Rattle.crew_job.proofs.ground.Ground.leaves_alike.Goals as goal

pub returns : goal.returns
returns c = λ t.
    let g = c.args.self.now in
    let is = c.sealed-sealed.ensures.ground in
    let v = c.sealed-sealed.result.now in
    let e : v ≡ g.sealed = c.sealed-sealed.ensures.version in
    let b = c.args.fronts.now in
    let sweep = c.requires in
    let solution = c.in-Some.solution.now in
    let before = c.in-Some-base.before.now in
    let code : b.base ≡ c.args.base = sym c.base-2.ensures ∙ c.is_same_code.ensures.0 c.if-not-is_same_code.false in
    let price : b.price ≡ before.price = c.is_same_price.ensures.0 c.if-not-is_same_price.false in
    let settings-v : v.settings ≡ g.settings = ap (λ (z : Snapshot). z.settings) e ∙ sym is.settings in
    let scratch : AreFronts g.settings (sealed_data_of g) (front_of solution) =
    subst (λ (z : Snapshot). AreFronts g.settings (timetable_of z.entries) (front_of solution)) e (subst (λ (s : Settings). AreFronts s (timetable_of v.entries) (front_of solution)) settings-v c.in-Some.ensures.scratch.fronts) in
    let network : HasNetOf g.settings (sealed_data_of g) solution =
    subst (λ (z : Snapshot). HasNetOf g.settings (timetable_of z.entries) solution) e (subst (λ (s : Settings). HasNetOf s (timetable_of v.entries) solution) settings-v c.in-Some.ensures.network) in
    let fronts : (d : Duty) → front_of solution b.base d ≡ front_at before d = λ d. ap (λ (z : List ℕ). front_of solution z d) code ∙ c.in-Some-base.ensures.fronts d in
    let own : b.net.settings ≡ g.settings = ap (λ (z : Net). z.settings) sweep.1.2.same ∙ net-settings g is in
    let other : before.net.settings ≡ g.settings = ap (λ (z : Net). z.settings) c.in-Some-base.ensures.own.1 ∙ (c.in-Some.ensures.network.2.settings ∙ settings-v) in
    let same : (d : Duty) → departure_of d ≡ departure_of c.args.duty.now → Member b.net.duties d → Member before.net.duties d → front_at b d ≡ front_at before d = c.leaves_alike.ensures t (own ∙ sym other) price in
    subst (λ (z : List ℕ). LeavesAsSealed g z (departure_of c.args.duty.now)) code
    (leaves-as-sealed g is sweep.0 b sweep.1 solution before scratch network c.in-Some-base.ensures.own.1 fronts (departure_of c.args.duty.now) same)
