use Rattle.std.proofs.Common.{◌≡◌, ◌<◌, ◌+◌, ◌-◌, ◌∙◌, ap, drop, get_or, take, Some, length, map, sym, subst, arith}
use Rattle.std.specs.Prelude.{slice_get}
use Rattle.crew_net.specs.Events.{leaves_at}
use Rattle.crew_net.specs.Machinery.Held.{leave_at}
use Rattle.crew_net.specs.Machinery.Timelines.{IsShape}
use Rattle.crew_net.specs.Nets.{Net}
use Rattle.crew_net.specs.Ranks.{ranks_where}
use Rattle.crew_net.proofs.Segments.{shape}
use Rattle.crew_net.proofs.Shown.{leaving-ranks}
use Rattle.crew_pairing.specs.declared.events.Departure.{Departure}
use Rattle.crew_net.specs.declared.events.Events.{Events}
use Rattle.crew_net.proofs.net.Net.leaving.Goals as goal

pub places_in-requires-clause-shape : goal.places_in-requires-clause-shape
places_in-requires-clause-shape c = subst (λ (e : Events). IsShape e.leave) (sym c.deref.ensures) (shape (map leave_at c.self.inside.duties.value) c.self.inside.events.value.leave c.self.invariant.leave)

pub places_in-requires-clause-within : goal.places_in-requires-clause-within
places_in-requires-clause-within c =
    let n = c.self.inside in
    let within : c.args.departure < length n.events.value.departures.items = subst (λ (net : Net). c.args.departure < length net.departures) (sym c.self.view_is) c.requires in
    let long = c.self.invariant.leave_events.long in
    let same = ap (λ (e : Events). length e.leave.moments.items) c.deref.ensures in
    omega (arith, within, long, same)

pub returns : goal.returns
returns c =
    let n = c.self.inside in
    let k = c.args.departure in
    let same = ap (λ (e : Events). take (get_or e.leave.starts.items (k + 1) 0 - get_or e.leave.starts.items k 0) (drop (get_or e.leave.starts.items k 0) e.leave.places.items)) c.deref.ensures in
    subst (λ (net : Net). (g : Departure) → slice_get net.departures c.args.departure ≡ Some g → c.places_in.result.now ≡ ranks_where (leaves_at g) net.duties) c.self.view_is
    (λ g h. c.places_in.ensures 0 ∙ same ∙ leaving-ranks n.settings n.bases.items n.duties.value n.events.value.leave n.events.value.arrive n.events.value.departures.items n.events.value.arrivals.items n.events.value.by_report.items c.self.invariant c.args.departure 0 g h)
