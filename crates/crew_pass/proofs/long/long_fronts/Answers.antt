use Rattle.std.proofs.Common.{◌≡◌, ◌∙◌, Global, ℤ, ap, rules, subst, sym, to_z, of_z, w64}
use Rattle.std.specs.Arc.{arc_value}
use Rattle.std.proofs.lemmas.Int.{to_z-of_z}
use Rattle.crew_answers.specs.LongVectors.{settings_of_sums}
use Rattle.crew_answers.specs.Shown.{resource_over}
use Rattle.crew_rules.specs.declared.settings.Settings.{Settings}
use Rattle.crew_answers.specs.crew_vector.Machinery.VectorResources.{vector_resource}
use Rattle.crew_answers.specs.crew_vector.declared.resource.VectorResource.{VectorResource}
use Rattle.crew_answers.specs.declared.resource.LongResource.{LongResource}
use Rattle.crew_answers.specs.declared.value.LongValue.{LongValue}
use Rattle.crew_net.specs.Nets.{Net}
use Rattle.crew_pass.specs.Passes.{BasePass, ShowsFronts}
use Rattle.crew_pass.proofs.long.long_fronts.Goals as goal

pub pass-requires-clause-counts : goal.pass-requires-clause-counts
pass-requires-clause-counts c =
    let s = c.args.settings.now in
    let passed = to_z w64 (of_z w64 c.args.price) in
    let price : passed ≡ c.args.price = to_z-of_z w64 c.args.price (search rules) in
    let sums = c.under-sums.ensures ∙ (ap (λ (z : Settings). vector_resource z passed) c.settings_of_sums.ensures ∙ ap (λ (z : ℤ). vector_resource (settings_of_sums s) z) price) in
    let is = c.new-resource.ensures ∙ ap (λ (v : VectorResource). resource_over v s) sums in
    let same = c.in_ok-shared.ensures.ok in
    c.long_passes_show_the_fronts.ensures.counts s c.args.price (arc_value {X = LongResource} {Z = Global} c.in_ok-shared.shared) (same ∙ is) c.requires.checked c.requires.price

pub returns-clause-right : goal.returns-clause-right
returns-clause-right c t sound dated are =
    let s = c.args.settings.now in
    let passed = to_z w64 (of_z w64 c.args.price) in
    let price : passed ≡ c.args.price = to_z-of_z w64 c.args.price (search rules) in
    let sums = c.under-sums.ensures ∙ (ap (λ (z : Settings). vector_resource z passed) c.settings_of_sums.ensures ∙ ap (λ (z : ℤ). vector_resource (settings_of_sums s) z) price) in
    let is = c.new-resource.ensures ∙ ap (λ (v : VectorResource). resource_over v s) sums in
    let same = c.in_ok-shared.ensures.ok in
    let shown = c.into_fronts.ensures in
    subst (λ (p : BasePass LongValue). ShowsFronts s t c.args.base c.args.price p) (sym shown)
    (c.long_passes_show_the_fronts.ensures.fronts s t c.args.base c.args.price (arc_value {X = LongResource} {Z = Global} c.in_ok-shared.shared) (arc_value {X = Net} {Z = Global} c.args.course.now) c.in_ok-passed.passed.pass (same ∙ is)
    c.in_ok-passed.ensures.net c.requires.checked sound dated are c.requires.settings c.in_ok-passed.ensures.covered)
