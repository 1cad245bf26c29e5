use Rattle.std.proofs.Common.{◌≡◌, ◌<◌, ◌∙◌, ◌+ℤ◌, Some, List, length, sym, subst, ap, get_or, pos, ℤ}
use Rattle.std.specs.Prelude.{slice_get}
use Rattle.std.proofs.lemmas.Option.{get_or_from_slice_get, slice_get-get_or}
use Rattle.crew_net.specs.Events.{IsWindow}
use Rattle.crew_net.specs.Machinery.Moments.{moment}
use Rattle.crew_net.specs.Machinery.Timelines.{IsWithin}
use Rattle.crew_net.specs.Nets.{Net}
use Rattle.crew_net.proofs.Shown.{arrival-at, following-window}
use Rattle.crew_pairing.specs.Events.{may_wait}
use Rattle.crew_pairing.specs.declared.events.Arrival.{Arrival}
use Rattle.crew_net.specs.declared.events.Events.{Events}
use Rattle.crew_net.proofs.net.Net.followers.Goals as goal

pub following-requires-clause-minute : goal.following-requires-clause-minute
following-requires-clause-minute c =
    let n = c.self.inside in
    let k = c.args.arrival in
    let g = c.index-event.result.now in
    let item = c.index-event.ensures ∙ ap (λ (e : Events). get_or e.arrivals.items k g) c.deref.ensures in
    let within : k < length n.events.value.arrivals.items = subst (λ (net : Net). k < length net.arrivals) (sym c.self.view_is) c.requires in
    let here : slice_get n.events.value.arrivals.items k ≡ Some g = slice_get-get_or n.events.value.arrivals.items k g within ∙ ap (λ (x : Arrival). Some x) (sym item) in
    (arrival-at n.settings n.bases.items n.duties.value n.events.value.leave n.events.value.arrive n.events.value.departures.items n.events.value.arrivals.items n.events.value.by_report.items c.self.invariant k g here).2

pub returns : goal.returns
returns c =
    let n = c.self.inside in
    let k = c.args.arrival in
    let w = c.following.result in
    let x = c.index-event.result.now in
    subst (λ (net : Net). (g : Arrival) → slice_get net.arrivals k ≡ Some g → IsWindow (may_wait net.settings g) net.departures w) c.self.view_is
    (λ g h.
    let at = arrival-at n.settings n.bases.items n.duties.value n.events.value.leave n.events.value.arrive n.events.value.departures.items n.events.value.arrivals.items n.events.value.by_report.items c.self.invariant k g h in
    let same : x ≡ g = c.index-event.ensures ∙ ap (λ (e : Events). get_or e.arrivals.items k x) c.deref.ensures ∙ get_or_from_slice_get n.events.value.arrivals.items k g x h in
    let within : IsWithin n.events.value.leave.moments.items (moment g.airport (g.release +ℤ pos 600)) (moment g.airport (g.release +ℤ pos n.settings.max_rest)) w =
    subst (λ (g : Arrival). IsWithin n.events.value.leave.moments.items (moment g.airport (g.release +ℤ pos 600)) (moment g.airport (g.release +ℤ pos n.settings.max_rest)) w) same
    (subst (λ (ms : List ℤ). IsWithin ms (moment x.airport (x.release +ℤ pos 600)) (moment x.airport (x.release +ℤ pos n.settings.max_rest)) w) (c.deref-3.ensures.value ∙ ap (λ (e : Events). e.leave.moments.items) c.deref-2.ensures) c.following.ensures.window) in
    following-window n.settings n.bases.items n.duties.value n.events.value.leave n.events.value.arrive n.events.value.departures.items n.events.value.arrivals.items n.events.value.by_report.items c.self.invariant g w at.1 at.2 within)
