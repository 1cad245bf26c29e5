use Rattle.std.proofs.Common.{◌≡◌, ◌∙◌, ◌+◌, ◌++◌, ◌<◌, List, Some, ℕ, ap, arith, drop, get_or, length, subst, sym, take}
use Rattle.std.specs.Prelude.{slice_get}
use Rattle.std.proofs.Math.Seq.{take-append_seam}
use Rattle.crew_net.specs.Events.{leaves_at}
use Rattle.crew_resource.specs.Members.{Member}
use Rattle.crew_net.proofs.DutyPositions.{HavePositions, position-more, positions-all}
use Rattle.crew_net.proofs.Numbers.{get-within}
use Rattle.crew_net.proofs.Orders.{by-report-long, in-order-long, in-order-of, place-within}
use Rattle.crew_net.proofs.ArrivalPlaces.{ranks-out}
use Rattle.crew_net.proofs.Slices.{at-within, stands}
use Rattle.crew_net.proofs.by_rank.departure_positions.Goals as goal

pub bounds-places-position : goal.bounds-places-position
bounds-places-position c =
    let net = c.args.net.now in
    let long = by-report-long net c.departures-position-end.ensures.exact c.by_report-places.ensures.exact in
    let places = ap length c.by_report-places.ensures.places in
    let events = ap length c.departures-position-end.ensures.events in
    omega (arith, c.loop-position-test.true, long, places, events)

pub leaving-requires : goal.leaving-requires
leaving-requires c =
    let net = c.args.net.now in
    let long = by-report-long net c.departures-position-end.ensures.exact c.by_report-places.ensures.exact in
    let events = ap length c.departures-position-end.ensures.events in
    let position = c.loop-position.position in
    let within : position < length net.by_report = omega (arith, c.loop-position-test.true, long, events) in
    let place = place-within net c.departures-position-end.ensures.exact c.by_report-places.ensures.exact position (get_or net.by_report position 0) (at-within net.by_report position 0 within) in
    subst (λ (ps : List ℕ). get_or ps position 0 < length net.departures) (sym c.by_report-places.ensures.places) place

pub write_at-requires : goal.write_at-requires
write_at-requires c rank m =
    let net = c.args.net.now in
    let position = c.loop-position.position in
    let place = get_or c.by_report-places.result.now position 0 in
    let order = by-report-long net c.departures-position-end.ensures.exact c.by_report-places.ensures.exact in
    let events = ap length c.departures-position-end.ensures.events in
    let within : position < length net.by_report = omega (arith, c.loop-position-test.true, order, events) in
    let at : slice_get net.by_report position ≡ Some place = at-within net.by_report position 0 within ∙ ap (λ (ps : List ℕ). Some (get_or ps position 0)) (sym c.by_report-places.ensures.places) in
    let g = stands net.departures place (place-within net c.departures-position-end.ensures.exact c.by_report-places.ensures.exact position place at) in
    let ranks = c.leaving.ensures g.0 g.1 in
    let d = ranks-out (leaves_at g.0) net.duties rank (subst (λ (rs : List ℕ). Member rs rank) ranks m) in
    let bound = get-within net.duties rank d.0 d.1 in
    let long = c.loop-position.invariant.0 in
    let same = ap length c.deref_mut.ensures.value in
    omega (arith, bound, long, same)

pub loop-position-preserved : goal.loop-position-preserved
loop-position-preserved c =
    let net = c.args.net.now in
    let k = c.loop-position.position in
    let now = c.write_at.new.places in
    let was = c.loop-position.positions.items in
    let place = get_or c.by_report-places.result.now k 0 in
    let long-order = by-report-long net c.departures-position-end.ensures.exact c.by_report-places.ensures.exact in
    let events = ap length c.departures-position-end.ensures.events in
    let within : k < length net.by_report = omega (arith, c.loop-position-test.true, long-order, events) in
    let at : slice_get net.by_report k ≡ Some place = at-within net.by_report k 0 within ∙ ap (λ (ps : List ℕ). Some (get_or ps k 0)) (sym c.by_report-places.ensures.places) in
    let g = stands net.departures place (place-within net c.departures-position-end.ensures.exact c.by_report-places.ensures.exact k place at) in
    let here = in-order-of net c.departures-position-end.ensures.exact c.by_report-places.ensures.exact k place g.0 at g.1 in
    let ranks = c.leaving.ensures g.0 g.1 in
    let value = c.deref_mut.ensures.value in
    let long : length now ≡ length net.duties = c.write_at.ensures.long ∙ (ap length value ∙ c.loop-position.invariant.0) in
    let len : length now ≡ c.loop-position.positions.len = c.write_at.ensures.long ∙ c.deref_mut.ensures.len in
    let whole : take c.loop-position.positions.len (now ++ drop (length now) was) ≡ now = ap (λ (n : ℕ). take n (now ++ drop (length now) was)) (sym len) ∙ take-append_seam now (drop (length now) was) in
    let next : HavePositions net (k + 1) now = position-more net c.departures-position-end.ensures.exact c.by_report-places.ensures.exact k g.0 was now here
    (λ rank m. c.write_at.ensures.there rank (subst (λ (rs : List ℕ). Member rs rank) (sym ranks) m))
    (λ rank out. c.write_at.ensures.elsewhere rank (λ m. out (subst (λ (rs : List ℕ). Member rs rank) ranks m)) ∙ ap (λ (ps : List ℕ). get_or ps rank 0) value)
    c.loop-position.invariant.1 in
    subst (λ (ps : List ℕ). (length ps ≡ length net.duties) × HavePositions net (k + 1) ps) (sym whole) (long, next)

pub returns : goal.returns
returns c =
    let net = c.args.net.now in
    let all = c.loop-position-test.false in
    let events = ap length c.departures-position-end.ensures.events in
    let ordered = c.by_report-places.ensures.exact in
    let order = in-order-long net c.departures-position-end.ensures.exact ordered in
    let long = by-report-long net c.departures-position-end.ensures.exact ordered in
    record {
      long = c.loop-position.invariant.0;
      exact = positions-all net c.departures-position-end.ensures.exact ordered c.loop-position.position c.loop-position.positions.items (omega (arith, all, events, order, long)) c.loop-position.invariant.1;
    }
