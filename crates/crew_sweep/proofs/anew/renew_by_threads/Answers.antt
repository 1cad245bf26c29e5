use Rattle.std.proofs.Common.{◌∙◌, ap, of_z, subst, sym, to_z, w64}
use Rattle.crew_anchor.specs.Stages.{anchored_resource}
use Rattle.crew_net.specs.Nets.{Net}
use Rattle.crew_rules.specs.declared.settings.Settings.{Settings}
use Rattle.std.specs.Arc.{arc_value}
use Rattle.crew_flights.specs.Timetable.{IsBasePrice}
use Rattle.crew_sweep.specs.Sweeps.{IsEarlier}
use Rattle.crew_sweep.proofs.Ends.{spare-of, swept-as}
use Rattle.crew_sweep.proofs.Prices.{base-price}
use Rattle.crew_sweep.proofs.anew.renew_by_threads.Goals as goal

pub of-ground-requires-clause-full : goal.of-ground-requires-clause-full
of-ground-requires-clause-full g c =
    let price = to_z w64 (of_z w64 c.price-price.result) in
    (price, c.new-full.ensures.made ∙ ap (λ (s : Settings). anchored_resource s price) (c.settings.ensures.value ∙ ap (λ (n : Net). n.settings) (c.deref.ensures ∙ sym c.deref-2.ensures)))

pub of-ground-requires-clause-fits : goal.of-ground-requires-clause-fits
of-ground-requires-clause-fits g c = c.new-full.ensures.fits

pub of-before-requires-clause-resource : goal.of-before-requires-clause-resource
of-before-requires-clause-resource g c =
    let old = c.args.earlier.now in
    let settings = (arc_value c.args.net).settings in
    let price = to_z w64 (of_z w64 c.price-price.result) in
    let full = c.new-full.ensures.made ∙ ap (λ (s : Settings). anchored_resource s price) (c.settings.ensures.value ∙ ap (λ (n : Net). n.settings) c.deref.ensures) in
    let at = base-price c.price-price.result (subst IsBasePrice (sym c.price-price.ensures) c.requires.earlier.price) ∙ c.price-price.ensures in
    c.of-ground.ensures.resource ∙ spare-of old settings price c.new-full.result full c.requires.earlier.settings at

pub of-before-requires-clause-full : goal.of-before-requires-clause-full
of-before-requires-clause-full g c =
    let old = c.args.earlier.now in
    let price = to_z w64 (of_z w64 c.price-price.result) in
    let full = c.new-full.ensures.made ∙ ap (λ (s : Settings). anchored_resource s price) (c.settings.ensures.value ∙ ap (λ (n : Net). n.settings) c.deref.ensures) in
    let at = base-price c.price-price.result (subst IsBasePrice (sym c.price-price.ensures) c.requires.earlier.price) ∙ c.price-price.ensures in
    full ∙ (ap (λ (s : Settings). anchored_resource s price) (sym c.requires.earlier.settings) ∙ ap (anchored_resource old.net.settings) at)

pub of-before-requires-clause-fits : goal.of-before-requires-clause-fits
of-before-requires-clause-fits g c = c.new-full.ensures.fits

pub of-before-requires-clause-earlier : goal.of-before-requires-clause-earlier
of-before-requires-clause-earlier g c = subst (λ (n : Net). IsEarlier c.args.earlier.now c.args.earlier_positions.now c.args.twins.now n c.args.places.now) (sym (c.of-ground.ensures.net ∙ c.deref-2.ensures)) c.requires.earlier

pub of-requires-clause-resource : goal.of-requires-clause-resource
of-requires-clause-resource g c = c.new-full.ensures.made ∙ ap (λ (s : Settings). anchored_resource s (to_z w64 (of_z w64 c.price-price.result))) (c.settings.ensures.value ∙ ap (λ (n : Net). n.settings) c.deref.ensures)

pub of-requires-clause-fits : goal.of-requires-clause-fits
of-requires-clause-fits g c = c.new-full.ensures.fits

pub of-requires-clause-passed : goal.of-requires-clause-passed
of-requires-clause-passed g c = record {
  own = c.of-ground.result;
  is_ground = c.of-ground.ensures.ground;
  own_net = c.of-ground.ensures.net ∙ c.deref-2.ensures;
  own_base = c.of-ground.ensures.base;
  own_resource = c.of-ground.ensures.resource;
  all = c.in_ok-passed.ensures;
}

pub returns : goal.returns
returns g c =
    let at = base-price c.price-price.result (subst IsBasePrice (sym c.price-price.ensures) c.requires.earlier.price) ∙ c.price-price.ensures in
    swept-as (arc_value c.args.net) c.base-base.result c.args.earlier.now.base (to_z w64 (of_z w64 c.price-price.result)) c.args.earlier.now.price _ _ c.of.result c.of.ensures.is c.base-base.ensures at c.of.ensures.right
