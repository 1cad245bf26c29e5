use Rattle.std.specs.Prelude.{◌&&◌}
use Rattle.std.proofs.lemmas.Bool.{and_parts}
use Rattle.crew_sweep.proofs.AsGood.{both}
use Rattle.crew_sweep.proofs.boardings.takes_no_more.Goals as goal

pub returns : goal.returns
returns c =
    let ends = c.end_together.result in
    let duty = c.has_no_more_duty.result in
    let flight = c.has_no_more_flight.result in
    let worth = c.is_worth_no_less.result in
    let costs = c.costs_no_more.result in (
      λ h.
          let a = and_parts ends (duty && (flight && (worth && costs))) h in
          let b = and_parts duty (flight && (worth && costs)) a.1 in
          let d = and_parts flight (worth && costs) b.1 in
          let e = and_parts worth costs d.1 in
          record {
            release = c.end_together.ensures.0 a.0;
            fdp = c.has_no_more_duty.ensures.0 b.0;
            fly = c.has_no_more_flight.ensures.0 d.0;
            price = c.is_worth_no_less.ensures.0 e.0;
            cost = c.costs_no_more.ensures.0 e.1;
          },
      λ k. both (c.end_together.ensures.1 k.release) (both (c.has_no_more_duty.ensures.1 k.fdp) (both (c.has_no_more_flight.ensures.1 k.fly) (both (c.is_worth_no_less.ensures.1 k.price) (c.costs_no_more.ensures.1 k.cost)))),
    )
