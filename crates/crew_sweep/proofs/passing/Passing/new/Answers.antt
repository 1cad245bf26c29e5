use Rattle.std.proofs.Common.{◌∙◌, List, ap, length, subst, sym}
use Rattle.crew_pairing.specs.declared.events.Arrival.{Arrival}
use Rattle.crew_pairing.specs.declared.events.Departure.{Departure}
use Rattle.crew_pairing.specs.declared.vector.PairingVector.{PairingVector}
use Rattle.crew_pool.specs.declared.label_walk.LabelWalk.{LabelWalk}
use Rattle.crew_sweep.specs.Machinery.Passing.{IsPassing}
use Rattle.crew_sweep.proofs.Steps.{passing-none}
use Rattle.crew_sweep.proofs.passing.Passing.new.Goals as goal

pub returns-clause-stands : goal.returns-clause-stands
returns-clause-stands c =
    let g = c.args.ground.now in
    let walks = c.args.walks in
    let made = c.in_ok-arrivals.arrivals.made.items in
    let held = c.in_ok-arrivals.arrivals.pools.items in
    let events = ap (λ (xs : List Arrival). length xs) c.arrivals.ensures.events in
    let of = c.in_ok-arrivals.ensures in
    record {
      pools = subst (λ (ps : List (List (PairingVector × LabelWalk))). IsPassing g.net.now g.base g.resource walks ps made held) (sym c.in_ok-pools.ensures)
          (passing-none g.net.now g.base g.resource walks made held (of.made ∙ events) (of.pools ∙ events) of.none of.empty);
      slides = record {
        long = c.in_ok-slides.ensures.long ∙ ap (λ (gs : List Departure). length gs) c.departures.ensures.events;
        sliding = c.in_ok-slides.ensures.sliding walks held;
        covered = λ p covers. absurd (c.in_ok-slides.ensures.nowhere p covers);
      };
    }
