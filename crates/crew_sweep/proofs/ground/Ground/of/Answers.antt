use Rattle.std.proofs.Common.{◌≤◌, subst, sym}
use Rattle.crew_anchor.specs.Machinery.Bounds.{fits_in}
use Rattle.crew_anchor.specs.declared.resource.AnchoredResource.{AnchoredResource}
use Rattle.crew_sweep.proofs.Ends as ends
use Rattle.crew_sweep.proofs.ground.Ground.of.Goals as goal

pub returns-clause-resource : goal.returns-clause-resource
returns-clause-resource c = ends.spare-by c.args.net.now c.settings-settings.ensures.checked c.requires.full.0 c.args.full.now c.requires.full.1 c.requires.fits c.sparing-resource.result c.sparing-resource.ensures

pub returns-clause-ground : goal.returns-clause-ground
returns-clause-ground c =
    let net = c.args.net.now in
    let checked = c.settings-settings.ensures.checked in
    let full = c.requires.full in
    let spare = ends.spare-by net checked full.0 c.args.full.now full.1 c.requires.fits c.sparing-resource.result c.sparing-resource.ensures in
    record {
      passable = record {
        departs = c.departures-departures.ensures.exact;
        arrives = c.arrivals-arrivals.ensures.exact;
        ordered = c.by_report-places.ensures.exact;
        real = c.departures-departures.ensures.real;
        rise = c.requires.sweepable.rise;
        sound = c.requires.sweepable.sound;
        few = c.requires.sweepable.few;
        are_positions = c.requires.sweepable.positions;
      };
      fits = λ n h. subst (λ (r : AnchoredResource). fits_in r n) (sym spare) (ends.spare-fits net checked full.0 c.args.full.now full.1 c.requires.fits n h);
      most = subst (λ (r : AnchoredResource). r.max_duties ≤ 12) (sym spare) (ends.spare-few net checked full.0 c.args.full.now full.1 c.requires.fits);
    }
