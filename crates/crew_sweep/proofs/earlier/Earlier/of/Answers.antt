use Rattle.std.proofs.Common.{◌∙◌, ap, refl, subst, sym}
use Rattle.crew_anchor.specs.Stages.{anchored_resource}
use Rattle.crew_net.specs.Nets.{Net}
use Rattle.crew_net.specs.Positions.{ArePositions}
use Rattle.crew_pairing.specs.Duties.{RiseByKey}
use Rattle.crew_pairing.specs.Events.{IsSound}
use Rattle.crew_pairing.specs.declared.duty.Duty.{Duty}
use Rattle.crew_resource.specs.Members.{Member}
use Rattle.crew_sweep.specs.Machinery.Renewing.{IsLaid}
use Rattle.crew_sweep.proofs.Ends.{spare-of}
use Rattle.crew_sweep.proofs.earlier.Earlier.of.Goals as goal

pub of-requires-clause-sweepable : goal.of-requires-clause-sweepable
of-requires-clause-sweepable c =
    let own = sym c.net-net.ensures.net in
    record {
      sound = subst (λ (n : Net). (d : Duty) → Member n.duties d → IsSound d) own c.net-net.ensures.sound;
      rise = c.duty_count-duties.ensures.rising;
      few = c.duty_count-duties.ensures.few;
      positions = subst (λ (n : Net). ArePositions n c.args.positions.now) own c.requires.earlier.earlier_positions;
    }

pub of-requires-clause-full : goal.of-requires-clause-full
of-requires-clause-full c = (c.args.sweep.now.price, c.requires.full ∙ ap (λ (n : Net). anchored_resource n.settings c.args.sweep.now.price) (sym c.net-net.ensures.net))

pub of-requires-clause-fits : goal.of-requires-clause-fits
of-requires-clause-fits c = c.requires.fits

pub returns : goal.returns
returns c = record {
  earlier = record {
    settings = c.requires.earlier.settings;
    laid = subst IsLaid c.net-net.ensures.net (record { departs = c.departures-departures.ensures.exact; arrives = c.arrivals-arrivals.ensures.exact; ordered = c.by_report-places.ensures.exact });
    rise = subst (λ (n : Net). RiseByKey n.duties) c.net-net.ensures.net c.duty_count-duties.ensures.rising;
    twins = c.requires.earlier.twins;
    are_positions = c.requires.earlier.earlier_positions;
    own_base = c.requires.base;
    resource = c.requires.resource;
    long = c.pools-pools.ensures.long;
    local = c.pools-pools.ensures.local;
    spared = c.pools-pools.ensures.spared;
  };
  places = c.requires.earlier.places;
  ground = c.of.ensures.ground;
  own_net = c.of.ensures.net ∙ c.net-net.ensures.net;
  own_base = c.of.ensures.base ∙ c.base.ensures;
  own_resource = c.of.ensures.resource ∙ spare-of c.args.sweep.now c.args.sweep.now.net.settings c.args.sweep.now.price c.args.full.now c.requires.full refl refl;
  whole = c.pools-pools.ensures.whole;
}
