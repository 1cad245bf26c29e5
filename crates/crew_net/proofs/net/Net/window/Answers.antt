use Rattle.std.proofs.Common.{◌≡◌, ◌<◌, ◌∙◌, ◌-ℤ◌, Some, List, length, sym, subst, ap, get_or, pos, ℤ}
use Rattle.std.specs.Prelude.{slice_get}
use Rattle.std.proofs.lemmas.Option.{get_or_from_slice_get, slice_get-get_or}
use Rattle.crew_net.specs.Events.{IsWindow}
use Rattle.crew_net.specs.Machinery.Moments.{moment}
use Rattle.crew_net.specs.Machinery.Timelines.{IsWithin}
use Rattle.crew_net.specs.Nets.{Net}
use Rattle.crew_net.proofs.Shown.{departure-at, waiting-window}
use Rattle.crew_pairing.specs.Events.{may_wait}
use Rattle.crew_pairing.specs.declared.events.Departure.{Departure}
use Rattle.crew_net.specs.declared.events.Events.{Events}
use Rattle.crew_net.proofs.net.Net.window.Goals as goal

pub waiting-requires-clause-minute : goal.waiting-requires-clause-minute
waiting-requires-clause-minute c =
    let n = c.self.inside in
    let k = c.args.departure in
    let g = c.index-event.result.now in
    let item = c.index-event.ensures ∙ ap (λ (e : Events). get_or e.departures.items k g) c.deref.ensures in
    let within : k < length n.events.value.departures.items = subst (λ (net : Net). k < length net.departures) (sym c.self.view_is) c.requires in
    let here : slice_get n.events.value.departures.items k ≡ Some g = slice_get-get_or n.events.value.departures.items k g within ∙ ap (λ (x : Departure). Some x) (sym item) in
    (departure-at n.settings n.bases.items n.duties.value n.events.value.leave n.events.value.arrive n.events.value.departures.items n.events.value.arrivals.items n.events.value.by_report.items c.self.invariant k g here).2

pub returns : goal.returns
returns c =
    let n = c.self.inside in
    let k = c.args.departure in
    let w = c.waiting.result in
    let x = c.index-event.result.now in
    subst (λ (net : Net). (g : Departure) → slice_get net.departures k ≡ Some g → IsWindow (λ x. may_wait net.settings x g) net.arrivals w) c.self.view_is
    (λ g h.
    let at = departure-at n.settings n.bases.items n.duties.value n.events.value.leave n.events.value.arrive n.events.value.departures.items n.events.value.arrivals.items n.events.value.by_report.items c.self.invariant k g h in
    let same : x ≡ g = c.index-event.ensures ∙ ap (λ (e : Events). get_or e.departures.items k x) c.deref.ensures ∙ get_or_from_slice_get n.events.value.departures.items k g x h in
    let within : IsWithin n.events.value.arrive.moments.items (moment g.airport (g.report -ℤ pos n.settings.max_rest)) (moment g.airport (g.report -ℤ pos 600)) w =
    subst (λ (g : Departure). IsWithin n.events.value.arrive.moments.items (moment g.airport (g.report -ℤ pos n.settings.max_rest)) (moment g.airport (g.report -ℤ pos 600)) w) same
    (subst (λ (ms : List ℤ). IsWithin ms (moment x.airport (x.report -ℤ pos n.settings.max_rest)) (moment x.airport (x.report -ℤ pos 600)) w) (c.deref-3.ensures.value ∙ ap (λ (e : Events). e.arrive.moments.items) c.deref-2.ensures) c.waiting.ensures.window) in
    waiting-window n.settings n.bases.items n.duties.value n.events.value.leave n.events.value.arrive n.events.value.departures.items n.events.value.arrivals.items n.events.value.by_report.items c.self.invariant g w at.1 at.2 within)
