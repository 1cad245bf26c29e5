use Rattle.std.proofs.Common.{◌≡◌, ◌∙◌, ℕ, List, Some, length, get_or, sym, ap, subst, arith}
use Rattle.std.specs.Prelude.{slice_get}
use Rattle.crew_net.specs.Events.{IsWindow}
use Rattle.crew_net.specs.Nets.{Net}
use Rattle.crew_net.specs.Positions.{in_order}
use Rattle.crew_net.proofs.Orders.{in-order-at, in-order-long, place-within}
use Rattle.crew_net.proofs.Slices.{at-within, some-same, stands}
use Rattle.crew_pairing.specs.Events.{may_wait}
use Rattle.crew_pairing.specs.declared.events.Departure.{Departure}
use Rattle.crew_pass.proofs.takeover.window_there.Goals as goal

pub window-requires : goal.window-requires
window-requires g c =
    let net = c.args.earlier.now.pass.net in
    let p = c.net-net.ensures.right.may.terms.passable in
    let place = get_or c.by_report.result.now c.args.position 0 in
    let listed = c.by_report.ensures.places ∙ ap (λ (n : Net). n.by_report) c.net-net.ensures.net in
    let at = at-within net.by_report c.args.position 0 c.requires.position ∙ ap (λ (ns : List ℕ). Some (get_or ns c.args.position 0)) (sym listed) in
    let within = place-within net p.departs p.ordered c.args.position place at in
    let same = ap (λ (n : Net). length n.departures) c.net-net.ensures.net in
    omega (arith, within, same)

pub returns-clause-window : goal.returns-clause-window
returns-clause-window g c h is =
    let net = c.args.earlier.now.pass.net in
    let p = c.net-net.ensures.right.may.terms.passable in
    let place = get_or c.by_report.result.now c.args.position 0 in
    let listed = c.by_report.ensures.places ∙ ap (λ (n : Net). n.by_report) c.net-net.ensures.net in
    let at = at-within net.by_report c.args.position 0 c.requires.position ∙ ap (λ (ns : List ℕ). Some (get_or ns c.args.position 0)) (sym listed) in
    let a = in-order-at net p.departs p.ordered c.args.position h is in
    let here = subst (λ (q : ℕ). slice_get net.departures q ≡ Some h) (some-same (slice_get net.by_report c.args.position) a.0 place a.1 at) a.2 in
    let there = subst (λ (n : Net). slice_get n.departures place ≡ Some h) (sym c.net-net.ensures.net) here in
    subst (λ (n : Net). IsWindow (λ x. may_wait n.settings x h) n.arrivals c.window.result) c.net-net.ensures.net (c.window.ensures h there)

-- arrivals are few, and the window ends within them
pub returns-clause-few : goal.returns-clause-few
returns-clause-few g c =
    let net = c.args.earlier.now.pass.net in
    let p = c.net-net.ensures.right.may.terms.passable in
    let long = in-order-long net p.departs p.ordered in
    let position = c.requires.position in
    let h = stands (in_order net) c.args.position (omega (arith, long, position)) in
    let within = (returns-clause-window g c h.0 h.1).within in
    let few = c.arrivals.ensures.few in
    let same = ap (λ (n : Net). length n.arrivals) c.net-net.ensures.net in
    omega (arith, within, few, same)
