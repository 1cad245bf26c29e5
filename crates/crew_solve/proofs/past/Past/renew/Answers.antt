use Rattle.std.proofs.Common.{◌≡◌, ◌∙◌, IfOk, ap, map, subst, sym}
use Rattle.std.specs.Arc.{arc_value}
use Rattle.crew_sweep.specs.crew_carry.Twins.{AreTwins}
use Rattle.crew_flights.specs.Timetable.{IsBasePrice}
use Rattle.crew_net.specs.Nets.{AreArrivalPlaces, Net}
use Rattle.crew_pairing.proofs.Tree.{Each-member}
use Rattle.crew_sweep.specs.Sweeps.{BaseSweep, IsSweepable, IsSwept}
use Rattle.crew_net.specs.Positions.{ArePositions}
use Rattle.crew_solve.proofs.past.Past.renew.Goals as goal

pub renew-requires-clause-sweepable : goal.renew-requires-clause-sweepable
renew-requires-clause-sweepable c = subst (λ (n : Net). IsSweepable n c.args.positions.now) (sym c.in_ok-net.ensures) c.requires.sweepable

pub renew-requires-clause-earlier : goal.renew-requires-clause-earlier
renew-requires-clause-earlier c =
    let p = c.requires.past in
    let own = Each-member (λ (b : BaseSweep). b.net ≡ p.earlier) (map arc_value c.args.self.now.fronts.items) c.args.earlier.now p.nets c.requires.among in
    let is = ap (λ (b : BaseSweep). b.net) c.sweep.ensures.sweep ∙ own in
    record {
      price = subst (λ (b : BaseSweep). IsBasePrice b.price) (sym c.sweep.ensures.sweep) c.requires.price;
      settings = ap (λ (n : Net). n.settings) is ∙ (p.settings ∙ ap (λ (n : Net). n.settings) (sym c.in_ok-net.ensures));
      earlier_positions = subst (λ (n : Net). ArePositions n c.deref.result.now) (sym is) (subst (ArePositions p.earlier) (sym c.deref.ensures.value) p.positions);
      twins = subst (λ (n : Net). AreTwins c.sweep.result.now.net n c.args.self.now.twins) (sym c.in_ok-net.ensures) (subst (λ (n : Net). AreTwins n (arc_value c.args.net.now) c.args.self.now.twins) (sym is) p.twins);
      places = subst (AreArrivalPlaces (arc_value c.in_ok-net.net)) (sym c.deref-2.ensures.value) (subst (λ (n : Net). AreArrivalPlaces n c.args.self.now.places.items) (sym c.in_ok-net.ensures) p.places);
    }

pub returns : goal.returns
returns c =
    let net = arc_value c.args.net.now in
    let r = c.renew.result in
    let swept = subst (λ (n : Net). IfOk r (IsSwept n (c.sweep.result.now.base, c.sweep.result.now.price))) c.in_ok-net.ensures c.renew.ensures in
    subst (λ (b : BaseSweep). IfOk r (IsSwept net (b.base, b.price))) c.sweep.ensures.sweep swept
