use Rattle.std.proofs.Common.{◌∙◌, ℕ, List, Some, get_or, length, sym, ap, arith}
use Rattle.crew_labelling.proofs.One.{departure-one}
use Rattle.crew_net.proofs.Orders.{in-order-of, place-within}
use Rattle.crew_net.proofs.Slices.{at-within, item-in, stands}
use Rattle.crew_pass.specs.Machinery.Passing.{MayWaitAt}
use Rattle.crew_pass.specs.Machinery.Terms.{terms}
use Rattle.crew_pass.proofs.waits.departure_pool.Goals as goal

pub bounds-departures-place : goal.bounds-departures-place
bounds-departures-place g c =
    let net = c.args.ground.now.net.now in
    let p = c.requires.may.terms.passable in
    let place = get_or c.by_report.result.now c.args.position 0 in
    let at = at-within net.by_report c.args.position 0 c.requires.position ∙ ap (λ (ns : List ℕ). Some (get_or ns c.args.position 0)) (sym c.by_report.ensures.places) in
    let same = ap length c.departures.ensures.events in
    let within = place-within net p.departs p.ordered c.args.position place at in
    omega (arith, within, same)

pub event_pool-requires-clause-window : goal.event_pool-requires-clause-window
event_pool-requires-clause-window g c =
    let net = c.args.ground.now.net.now in
    let p = c.requires.may.terms.passable in
    let position = c.args.position in
    let place = get_or c.by_report.result.now position 0 in
    let at = at-within net.by_report position 0 c.requires.position ∙ ap (λ (ns : List ℕ). Some (get_or ns position 0)) (sym c.by_report.ensures.places) in
    let within = place-within net p.departs p.ordered position place at in
    let departure = c.index-departures-place.result in
    let here = item-in net.departures c.departures.result.now place departure within c.departures.ensures.events c.index-departures-place.is in
    let reports = in-order-of net p.departs p.ordered position place departure at here in
    c.window_at-window.ensures departure reports

pub event_pool-requires-clause-there : goal.event_pool-requires-clause-there
event_pool-requires-clause-there g c k from end =
    let net = c.args.ground.now.net.now in
    let p = c.requires.may.terms.passable in
    let position = c.args.position in
    let place = get_or c.by_report.result.now position 0 in
    let at = at-within net.by_report position 0 c.requires.position ∙ ap (λ (ns : List ℕ). Some (get_or ns position 0)) (sym c.by_report.ensures.places) in
    let within = place-within net p.departs p.ordered position place at in
    let departure = c.index-departures-place.result in
    let here = item-in net.departures c.departures.result.now place departure within c.departures.ensures.events c.index-departures-place.is in
    let reports = in-order-of net p.departs p.ordered position place departure at here in
    let window = c.window_at-window.ensures departure reports in
    let most = window.within in
    let x = stands net.arrivals k (omega (arith, end, most)) in
    let waits : MayWaitAt net position k = record { departure = departure; arrival = x.0; reports = reports; releases = x.1; may = (window.exact k x.0 x.1).1 (from, end) } in
    c.requires.there k waits

pub event_pool-requires-clause-rested : goal.event_pool-requires-clause-rested
event_pool-requires-clause-rested g c other k from end =
    let net = c.args.ground.now.net.now in
    let p = c.requires.may.terms.passable in
    let position = c.args.position in
    let place = get_or c.by_report.result.now position 0 in
    let at = at-within net.by_report position 0 c.requires.position ∙ ap (λ (ns : List ℕ). Some (get_or ns position 0)) (sym c.by_report.ensures.places) in
    let within = place-within net p.departs p.ordered position place at in
    let departure = c.index-departures-place.result in
    let here = item-in net.departures c.departures.result.now place departure within c.departures.ensures.events c.index-departures-place.is in
    let reports = in-order-of net p.departs p.ordered position place departure at here in
    let window = c.window_at-window.ensures departure reports in
    let most = window.within in
    let x = stands net.arrivals k (omega (arith, end, most)) in
    let waits : MayWaitAt net position k = record { departure = departure; arrival = x.0; reports = reports; releases = x.1; may = (window.exact k x.0 x.1).1 (from, end) } in
    c.requires.rested other k waits

pub returns : goal.returns
returns g c =
    let net = c.args.ground.now.net.now in
    let p = c.requires.may.terms.passable in
    let position = c.args.position in
    let place = get_or c.by_report.result.now position 0 in
    let at = at-within net.by_report position 0 c.requires.position ∙ ap (λ (ns : List ℕ). Some (get_or ns position 0)) (sym c.by_report.ensures.places) in
    let within = place-within net p.departs p.ordered position place at in
    let departure = c.index-departures-place.result in
    let here = item-in net.departures c.departures.result.now place departure within c.departures.ensures.events c.index-departures-place.is in
    let reports = in-order-of net p.departs p.ordered position place departure at here in
    let w = (terms g.R.Value.Ord.cmp g.R.Lapses g.R.Staged g.R.Forgets g.R.Resource c.args.ground.now) in
    departure-one w c.requires.may.terms c.requires.may.lawful position departure reports c.in_ok-pool.pool c.rises.ensures c.in_ok-pool.ensures.held c.in_ok-pool.ensures.pool
