use Rattle.std.proofs.Common.{◌≡◌, ◌<◌, ℕ, List, get_or, length, sym, subst, arith}
use Rattle.std.proofs.lemmas.Result.{on_ok_weaker}
use Rattle.crew_labelling.proofs.Right.{arrivals-long, departures-long}
use Rattle.crew_net.specs.Events.{arrives_at}
use Rattle.crew_net.specs.Ranks.{ranks_where}
use Rattle.crew_net.specs.Positions.{in_order}
use Rattle.crew_net.proofs.ArrivalPlaces.{rank-within}
use Rattle.crew_net.proofs.Numbers.{get-within}
use Rattle.crew_net.proofs.Orders.{in-order-long}
use Rattle.crew_net.proofs.Slices.{get-at, member-place, stands}
use Rattle.crew_pairing.specs.Events.{departure_of}
use Rattle.crew_pairing.specs.declared.events.Arrival.{Arrival}
use Rattle.crew_resource.specs.Members.{Member}
use Rattle.crew_resource.proofs.Members.{Member-get}
use Rattle.crew_pass.specs.Machinery.Passing.{MayWaitAt, arriving_ranks, no_arrival}
use Rattle.crew_pass.specs.Machinery.Shelves.{IsThere}
use Rattle.crew_pass.specs.Machinery.Terms.{terms}
use Rattle.crew_pass.proofs.Before.{after-each, waits-after}
use Rattle.crew_pass.proofs.More.{stay, stay-then}
use Rattle.crew_pass.proofs.Steps.{one-step}
use Rattle.crew_pass.proofs.seeing.+sight.Goals as goal

pub see_departure-has-requires : goal.see_departure-has-requires
see_departure-has-requires g t c =
    let within = c.requires.position in
    let one = c.requires.seen.departures.long in
    let two = departures-long (terms g.R.Value.Ord.cmp g.R.Lapses g.R.Staged g.R.Forgets g.R.Resource c.args.ground.now) c.requires.may.terms in
    omega (arith, within, one, two)

pub see_departure-loop-place-init : goal.see_departure-loop-place-init
see_departure-loop-place-init g t c = (c.requires.seen, stay c.args.seen.now, λ k a b. absurd (omega (arith, a, b)), λ other k a b. absurd (omega (arith, a, b)))

pub see_departure-see_arrival-requires : goal.see_departure-see_arrival-requires
see_departure-see_arrival-requires g t c κs within =
    let w = (terms g.R.Value.Ord.cmp g.R.Lapses g.R.Staged g.R.Forgets g.R.Resource c.args.ground.now) in
    let net = c.args.ground.now.net.now in
    let p = c.requires.may.terms.passable in
    let position = c.args.position in
    let place = c.loop-place.place in
    let inside = c.requires.position in
    let long = in-order-long net p.departs p.ordered in
    let d = stands (in_order net) position (omega (arith, inside, long)) in
    let window = c.window_at-window.ensures d.0 d.1 in
    let most = window.within in
    let test = c.loop-place-test.true in
    let bound : place < length net.arrivals = omega (arith, most, test) in
    let x = stands net.arrivals place bound in
    let waits : MayWaitAt net position place = record { departure = d.0; arrival = x.0; reports = d.1; releases = x.1; may = (window.exact place x.0 x.1).1 (c.loop-place.auto.place, test) } in
    let before = waits-after w c.requires.may.terms position place waits in
    let falls = c.decreases in
    (omega (arith, before, falls), (within.0, (within.1, (c.requires.may, (c.requires.cells, (c.loop-place.invariant.0, bound))))))

pub see_departure-loop-place-preserved : goal.see_departure-loop-place-preserved
see_departure-loop-place-preserved g t c =
    let is = c.in_ok-see_arrival.ensures in
    let so = c.loop-place.invariant in
    let now = c.see_arrival.new.seen in
    let place = c.loop-place.place in (
      is.seen,
      stay-then c.args.seen.now c.loop-place.seen now so.1 is.stays,
      one-step (λ (n : ℕ). IsThere now.arrivals n) c.window_at-window.result.from place (λ n a b. is.stays.arrivals n (so.2 n a b)) is.there,
      λ other. one-step (λ (n : ℕ). IsThere now.rested n) c.window_at-window.result.from place (λ n a b. is.stays.rested n (so.3 other n a b)) (is.rested other),
    )

pub see_departure-take_departure-requires-clause-seen : goal.see_departure-take_departure-requires-clause-seen
see_departure-take_departure-requires-clause-seen g t c = c.loop-place.invariant.0

pub see_departure-take_departure-requires-clause-there : goal.see_departure-take_departure-requires-clause-there
see_departure-take_departure-requires-clause-there g t c place waits =
    let window = c.window_at-window.ensures waits.departure waits.reports in
    let inside = (window.exact place waits.arrival waits.releases).0 waits.may in
    let end = inside.1 in
    let test = c.loop-place-test.false in
    c.loop-place.invariant.2 place inside.0 (omega (arith, end, test))

pub see_departure-take_departure-requires-clause-rested : goal.see_departure-take_departure-requires-clause-rested
see_departure-take_departure-requires-clause-rested g t c other place waits =
    let window = c.window_at-window.ensures waits.departure waits.reports in
    let inside = (window.exact place waits.arrival waits.releases).0 waits.may in
    let end = inside.1 in
    let test = c.loop-place-test.false in
    c.loop-place.invariant.3 other place inside.0 (omega (arith, end, test))

pub see_departure-returns-clause-stays : goal.see_departure-returns-clause-stays
see_departure-returns-clause-stays g t c =
    on_ok_weaker c.take_departure.result (λ more. stay-then c.args.seen.now c.loop-place.seen c.take_departure.new.seen c.loop-place.invariant.1 more) c.take_departure.ensures.stays

pub see_arrival-has-requires : goal.see_arrival-has-requires
see_arrival-has-requires g t c =
    let within = c.requires.place in
    let one = c.requires.seen.arrivals.long in
    let two = arrivals-long (terms g.R.Value.Ord.cmp g.R.Lapses g.R.Staged g.R.Forgets g.R.Resource c.args.ground.now) c.requires.may.terms in
    omega (arith, within, one, two)

pub see_arrival-loop-rank-init : goal.see_arrival-loop-rank-init
see_arrival-loop-rank-init g t c = (c.requires.seen, stay c.args.seen.now, λ k a b. absurd (omega (arith, b)))

pub see_arrival-bounds-ground-rank : goal.see_arrival-bounds-ground-rank
see_arrival-bounds-ground-rank g t c =
    let net = c.args.ground.now.net.now in
    let ranks = c.arriving-rank-items.result.now in
    let rank = get_or ranks c.loop-rank.rank-index 0 in
    let x = stands net.arrivals c.args.place c.requires.place in
    let among = subst (λ (rs : List ℕ). Member rs rank) (c.arriving-rank-items.ensures x.0 x.1) (Member-get ranks c.loop-rank.rank-index 0 c.loop-rank-test.true) in
    let inside = rank-within x.0 net.duties rank among in
    let long = c.requires.may.terms.passable.are_positions.long in
    omega (arith, inside, long)

pub see_arrival-see_departure-requires : goal.see_arrival-see_departure-requires
see_arrival-see_departure-requires g t c κs within =
    let net = c.args.ground.now.net.now in
    let p = c.requires.may.terms.passable in
    let positions = c.args.ground.now.positions.now in
    let place = c.args.place in
    let ranks = c.arriving-rank-items.result.now in
    let rank = get_or ranks c.loop-rank.rank-index 0 in
    let position = get_or positions rank 0 in
    let x = stands net.arrivals place c.requires.place in
    let is = c.arriving-rank-items.ensures x.0 x.1 in
    let among = subst (λ (rs : List ℕ). Member rs rank) is (Member-get ranks c.loop-rank.rank-index 0 c.loop-rank-test.true) in
    let here = subst (λ (z : Arrival). Member (ranks_where (arrives_at z) net.duties) rank) (sym (get-at net.arrivals place x.0 no_arrival x.1)) among in
    let before = after-each positions (arriving_ranks net place) rank here in
    let falls = c.decreases in
    let d = stands net.duties rank (rank-within x.0 net.duties rank among) in
    let inside = get-within (in_order net) position (departure_of d.0) (p.are_positions.exact rank d.0 d.1) in
    let long = in-order-long net p.departs p.ordered in
    (omega (arith, before, falls), (within.0, (within.1, (c.requires.may, (c.requires.cells, (c.loop-rank.invariant.0, omega (arith, inside, long)))))))

pub see_arrival-loop-rank-preserved : goal.see_arrival-loop-rank-preserved
see_arrival-loop-rank-preserved g t c =
    let is = c.in_ok-see_departure.ensures in
    let so = c.loop-rank.invariant in
    let now = c.see_departure.new.seen in
    let positions = c.args.ground.now.positions.now in
    let ranks = c.arriving-rank-items.result.now in (
      is.seen,
      stay-then c.args.seen.now c.loop-rank.seen now so.1 is.stays,
      one-step (λ (i : ℕ). IsThere now.departures (get_or positions (get_or ranks i 0) 0)) 0 c.loop-rank.rank-index
          (λ i a b. is.stays.departures (get_or positions (get_or ranks i 0) 0) (so.2 i a b)) is.there,
    )

pub see_arrival-see_fronts_between-requires-clause-seen : goal.see_arrival-see_fronts_between-requires-clause-seen
see_arrival-see_fronts_between-requires-clause-seen g t c = c.loop-rank.invariant.0

pub see_arrival-see_fronts_between-requires-clause-there : goal.see_arrival-see_fronts_between-requires-clause-there
see_arrival-see_fronts_between-requires-clause-there g t c rank arrives =
    let ranks = c.arriving-rank-items.result.now in
    let positions = c.args.ground.now.positions.now in
    let is : ranks ≡ ranks_where (arrives_at arrives.arrival) c.args.ground.now.net.now.duties = c.arriving-rank-items.ensures arrives.arrival arrives.releases in
    let at = member-place ranks rank (subst (λ (rs : List ℕ). Member rs rank) (sym is) arrives.among) in
    let inside = get-within ranks at.0 rank at.1 in
    let test = c.loop-rank-test.false in
    subst (λ (r : ℕ). IsThere c.loop-rank.seen.departures (get_or positions r 0)) (get-at ranks at.0 rank 0 at.1) (c.loop-rank.invariant.2 at.0 (omega arith) (omega (arith, inside, test)))

pub see_arrival-take_arrival-requires-clause-there : goal.see_arrival-take_arrival-requires-clause-there
see_arrival-take_arrival-requires-clause-there g t c rank arrives =
    let ranks = c.arriving-rank-items.result.now in
    let positions = c.args.ground.now.positions.now in
    let is : ranks ≡ ranks_where (arrives_at arrives.arrival) c.args.ground.now.net.now.duties = c.arriving-rank-items.ensures arrives.arrival arrives.releases in
    let at = member-place ranks rank (subst (λ (rs : List ℕ). Member rs rank) (sym is) arrives.among) in
    let inside = get-within ranks at.0 rank at.1 in
    let test = c.loop-rank-test.false in
    let there = subst (λ (r : ℕ). IsThere c.loop-rank.seen.departures (get_or positions r 0)) (get-at ranks at.0 rank 0 at.1) (c.loop-rank.invariant.2 at.0 (omega arith) (omega (arith, inside, test))) in
    c.in_ok-see_fronts_between.ensures.stays.departures (get_or positions rank 0) there

pub see_arrival-returns-clause-stays : goal.see_arrival-returns-clause-stays
see_arrival-returns-clause-stays g t c =
    let one = stay-then c.args.seen.now c.loop-rank.seen c.see_fronts_between.new.seen c.loop-rank.invariant.1 c.in_ok-see_fronts_between.ensures.stays in
    let so = stay-then c.args.seen.now c.see_fronts_between.new.seen c.take_arrival.new.seen one c.in_ok-take_arrival.ensures.stays in
    on_ok_weaker c.see_rest-2.result (λ more. stay-then c.args.seen.now c.take_arrival.new.seen c.see_rest-2.new.seen so more) c.see_rest-2.ensures.stays
