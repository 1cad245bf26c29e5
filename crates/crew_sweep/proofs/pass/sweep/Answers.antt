use Rattle.std.proofs.Common.{◌∙◌, ap, of_z, refl, sym, to_z, w64}
use Rattle.std.specs.Arc.{arc_value}
use Rattle.crew_anchor.specs.Stages.{anchored_resource}
use Rattle.crew_net.specs.Nets.{Net}
use Rattle.crew_rules.specs.declared.settings.Settings.{Settings}
use Rattle.crew_sweep.proofs.Ends.{swept-as}
use Rattle.crew_sweep.proofs.Prices.{base-price}
use Rattle.crew_sweep.proofs.pass.sweep.Goals as goal

pub of-ground-requires-clause-full : goal.of-ground-requires-clause-full
of-ground-requires-clause-full c =
    let price = to_z w64 (of_z w64 c.args.price) in
    (price, c.new-full.ensures.made ∙ ap (λ (s : Settings). anchored_resource s price) (c.settings.ensures.value ∙ ap (λ (n : Net). n.settings) (c.deref.ensures ∙ sym c.deref-2.ensures)))

pub of-ground-requires-clause-fits : goal.of-ground-requires-clause-fits
of-ground-requires-clause-fits c = c.new-full.ensures.fits

pub of-requires-clause-resource : goal.of-requires-clause-resource
of-requires-clause-resource c = c.new-full.ensures.made ∙ ap (λ (s : Settings). anchored_resource s (to_z w64 (of_z w64 c.args.price))) (c.settings.ensures.value ∙ ap (λ (n : Net). n.settings) c.deref.ensures)

pub of-requires-clause-fits : goal.of-requires-clause-fits
of-requires-clause-fits c = c.new-full.ensures.fits

pub of-requires-clause-passed : goal.of-requires-clause-passed
of-requires-clause-passed c = record {
  own = c.of-ground.result;
  is_ground = c.of-ground.ensures.ground;
  own_net = c.of-ground.ensures.net ∙ c.deref-2.ensures;
  own_base = c.of-ground.ensures.base;
  own_resource = c.of-ground.ensures.resource;
  all = c.in_ok-passed.ensures;
}

pub returns : goal.returns
returns c = swept-as (arc_value c.args.net) c.args.base c.args.base (to_z w64 (of_z w64 c.args.price)) c.args.price _ _ c.of.result c.of.ensures.is refl (base-price c.args.price c.requires.price) c.of.ensures.right
