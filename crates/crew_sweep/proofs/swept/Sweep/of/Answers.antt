use Rattle.std.proofs.Common.{◌∙◌, ap, of_z, subst, sym, to_z, w64}
use Rattle.std.specs.Arc.{arc_value}
use Rattle.crew_anchor.specs.Stages.{anchored_resource}
use Rattle.crew_net.specs.Nets.{Net}
use Rattle.crew_rules.specs.Settings.{IsChecked}
use Rattle.crew_sweep.proofs.Prices.{base-price}
use Rattle.crew_sweep.proofs.Ends as ends
use Rattle.crew_sweep.proofs.swept.Sweep.of.Goals as goal

pub invariant_of-result : goal.invariant_of-result
invariant_of-result c =
    let checked = subst IsChecked (ap (λ (n : Net). n.settings) c.deref.ensures) c.settings-settings.ensures.checked in
    let is = c.requires.resource ∙ ap (anchored_resource (arc_value c.args.net).settings) (sym (base-price c.args.price c.requires.price)) in
    ends.all-kept (arc_value c.args.net) checked (to_z w64 (of_z w64 c.args.price)) c.args.resource is c.requires.fits c.args.base c.args.passed c.requires.passed

pub returns-clause-right : goal.returns-clause-right
returns-clause-right c =
    let checked = subst IsChecked (ap (λ (n : Net). n.settings) c.deref.ensures) c.settings-settings.ensures.checked in
    let is = c.requires.resource ∙ ap (anchored_resource (arc_value c.args.net).settings) (sym (base-price c.args.price c.requires.price)) in
    ends.all-right (arc_value c.args.net) checked (to_z w64 (of_z w64 c.args.price)) c.args.resource is c.requires.fits c.args.base c.args.passed c.requires.passed
