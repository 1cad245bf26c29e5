use Rattle.std.proofs.Common.{arith, List, subst}
use Rattle.crew_net.specs.Events.{departure_cmp}
use Rattle.crew_pairing.specs.Keys.{key_cmp}
use Rattle.crew_pairing.specs.declared.duty.Duty.{Duty}
use Rattle.crew_pairing.specs.declared.events.Departure.{Departure}
use Rattle.crew_carry.specs.Machinery.Matches.{AreMatches}
use Rattle.crew_carry.proofs.Arriving.{rises}
use Rattle.crew_carry.proofs.Ties.{departure-found, departure-tie, key-tie, ranks-found}
use Rattle.crew_carry.proofs.twins.Twins.of.Goals as goal

pub returns : goal.returns
returns c =
    let old = c.args.old.now in
    let new = c.args.new.now in
    let gs = c.in_ok-departures.departures.items in
    let rs = c.in_ok-ranks.ranks.items in
    let events : AreMatches departure_cmp new.departures old.departures gs =
    subst (λ (xs : List Departure). AreMatches departure_cmp xs old.departures gs) c.departures.ensures.events
    (subst (λ (ys : List Departure). AreMatches departure_cmp c.departures.result.now ys gs) c.departures-2.ensures.events c.in_ok-departures.ensures) in
    let by_key = λ (a b : Duty). key_cmp a.key b.key in
    let duties : AreMatches by_key old.duties new.duties rs =
    subst (λ (xs : List Duty). AreMatches by_key xs new.duties rs) c.duties-olds.ensures
    (subst (λ (ys : List Duty). AreMatches by_key c.duties-olds.result.now ys rs) c.duties-news.ensures c.in_ok-ranks.ensures) in
    record {
      twins = record {
        departures_long = events.long;
        departures = departure-found new.departures old.departures gs events;
        arrivals_long = c.in_ok-arrivals.ensures.long;
        arrivals = c.in_ok-arrivals.ensures.same;
        ranks = ranks-found old.duties new.duties rs duties;
      };
      all = λ ro rn. record {
        departures = λ p q g at-old at-new.
            let few = c.departures-2.ensures.few in
            events.all c.departures.ensures.exact.rising c.departures-2.ensures.exact.rising (omega (arith, few)) p q (g, g, at-new, at-old, departure-tie g);
        arrivals = c.in_ok-arrivals.ensures.all ro rn;
        ranks = λ r k d e at-old at-new same.
            let few = rn.1 in
            duties.all (rises old.duties ro.0) (rises new.duties rn.0) (omega (arith, few)) r k (d, e, at-old, at-new, key-tie d e same);
      };
    }
