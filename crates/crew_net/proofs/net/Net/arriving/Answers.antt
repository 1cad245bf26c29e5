use Rattle.std.proofs.Common.{◌≡◌, ◌<◌, ◌+◌, ◌-◌, ◌∙◌, ap, drop, get_or, take, Some, length, map, sym, subst, arith}
use Rattle.std.specs.Prelude.{slice_get}
use Rattle.crew_net.specs.Events.{arrives_at}
use Rattle.crew_net.specs.Machinery.Held.{arrive_at}
use Rattle.crew_net.specs.Machinery.Timelines.{IsShape}
use Rattle.crew_net.specs.Nets.{Net}
use Rattle.crew_net.specs.Ranks.{ranks_where}
use Rattle.crew_net.proofs.Segments.{shape}
use Rattle.crew_net.proofs.Shown.{arriving-ranks}
use Rattle.crew_pairing.specs.declared.events.Arrival.{Arrival}
use Rattle.crew_net.specs.declared.events.Events.{Events}
use Rattle.crew_net.proofs.net.Net.arriving.Goals as goal

pub places_in-requires-clause-shape : goal.places_in-requires-clause-shape
places_in-requires-clause-shape c = subst (λ (e : Events). IsShape e.arrive) (sym c.deref.ensures) (shape (map arrive_at c.self.inside.duties.value) c.self.inside.events.value.arrive c.self.invariant.arrive)

pub places_in-requires-clause-within : goal.places_in-requires-clause-within
places_in-requires-clause-within c =
    let n = c.self.inside in
    let within : c.args.arrival < length n.events.value.arrivals.items = subst (λ (net : Net). c.args.arrival < length net.arrivals) (sym c.self.view_is) c.requires in
    let long = c.self.invariant.arrive_events.long in
    let same = ap (λ (e : Events). length e.arrive.moments.items) c.deref.ensures in
    omega (arith, within, long, same)

pub returns : goal.returns
returns c =
    let n = c.self.inside in
    let k = c.args.arrival in
    let same = ap (λ (e : Events). take (get_or e.arrive.starts.items (k + 1) 0 - get_or e.arrive.starts.items k 0) (drop (get_or e.arrive.starts.items k 0) e.arrive.places.items)) c.deref.ensures in
    subst (λ (net : Net). (g : Arrival) → slice_get net.arrivals c.args.arrival ≡ Some g → c.places_in.result.now ≡ ranks_where (arrives_at g) net.duties) c.self.view_is
    (λ g h. c.places_in.ensures 0 ∙ same ∙ arriving-ranks n.settings n.bases.items n.duties.value n.events.value.leave n.events.value.arrive n.events.value.departures.items n.events.value.arrivals.items n.events.value.by_report.items c.self.invariant c.args.arrival 0 g h)
