use Rattle.std.proofs.Common.{◌≡◌, ◌∙◌, Global, ℤ, ap, rules, subst, to_z, of_z, w64}
use Rattle.std.specs.Arc.{arc_value}
use Rattle.std.proofs.lemmas.Int.{to_z-of_z}
use Rattle.crew_net.specs.Machinery.Moments.{IsReal}
use Rattle.crew_net.specs.Nets.{Net}
use Rattle.crew_pairing.specs.declared.duty.Duty.{Duty}
use Rattle.crew_resource.specs.Members.{Member}
use Rattle.crew_sums.specs.Sums.{sums_resource}
use Rattle.crew_sums.specs.declared.resource.SumsResource.{SumsResource}
use Rattle.crew_sums.proofs.fronts.sums_fronts_by_threads.Goals as goal

pub pass_by_threads-requires-clause-counts : goal.pass_by_threads-requires-clause-counts
pass_by_threads-requires-clause-counts g c κs out =
    let price : to_z w64 (of_z w64 c.args.price) ≡ c.args.price = to_z-of_z w64 c.args.price (search rules) in
    let is = c.new-resource.ensures ∙ ap (λ (z : ℤ). sums_resource c.args.settings.now z) price in
    c.sums_passes_show_the_fronts.ensures.counts c.args.settings.now c.args.price (arc_value {X = SumsResource} {Z = Global} c.in_ok-shared.shared) (c.in_ok-shared.ensures.ok ∙ is) c.requires.checked c.requires.price

pub returns-clause-right : goal.returns-clause-right
returns-clause-right g c t sound are =
    let price : to_z w64 (of_z w64 c.args.price) ≡ c.args.price = to_z-of_z w64 c.args.price (search rules) in
    let is = c.new-resource.ensures ∙ ap (λ (z : ℤ). sums_resource c.args.settings.now z) price in
    c.sums_passes_show_the_fronts.ensures.fronts c.args.settings.now t c.args.base c.args.price (arc_value {X = SumsResource} {Z = Global} c.in_ok-shared.shared) (arc_value c.args.course.now) c.in_ok-passed.passed.pass (c.in_ok-shared.ensures.ok ∙ is) c.in_ok-passed.ensures.net c.requires.checked sound are (subst (λ (n : Net). (d : Duty) → Member n.duties d → IsReal d.report) c.deref.ensures c.see_reports.ensures) c.requires.settings
    c.in_ok-passed.ensures.covered
