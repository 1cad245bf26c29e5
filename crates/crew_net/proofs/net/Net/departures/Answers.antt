use Rattle.crew_pairing.specs.Events.{departure_of}
use Rattle.std.proofs.Common.{◌≤◌, arith, length, map, subst}
use Rattle.std.proofs.lemmas.List.{length-map}
use Rattle.crew_net.specs.Machinery.Held.{leave_at}
use Rattle.crew_net.specs.Machinery.Moments.{IsReal}
use Rattle.crew_pairing.specs.declared.events.Departure.{Departure}
use Rattle.crew_resource.specs.Members.{Member}
use Rattle.crew_net.specs.Events.{AreEvents, departure_cmp}
use Rattle.crew_net.specs.Nets.{Net}
use Rattle.crew_net.proofs.ByReport.{few-moments}
use Rattle.crew_net.proofs.Shown.{departures-are, departures-real}
use Rattle.crew_net.proofs.net.Net.departures.Goals as goal

pub returns-clause-exact : goal.returns-clause-exact
returns-clause-exact c =
    let n = c.self.inside in
    subst (λ (net : Net). AreEvents departure_of departure_cmp net.duties net.departures) c.self.view_is (departures-are n.settings n.bases.items n.duties.value n.events.value.leave n.events.value.arrive n.events.value.departures.items n.events.value.arrivals.items n.events.value.by_report.items c.self.invariant)

pub returns-clause-real : goal.returns-clause-real
returns-clause-real c =
    let n = c.self.inside in
    subst (λ (net : Net). (g : Departure) → Member net.departures g → IsReal g.report) c.self.view_is (departures-real n.settings n.bases.items n.duties.value n.events.value.leave n.events.value.arrive n.events.value.departures.items n.events.value.arrivals.items n.events.value.by_report.items c.self.invariant)

pub returns-clause-few : goal.returns-clause-few
returns-clause-few c =
    let n = c.self.inside in
    let moments = few-moments (map leave_at n.duties.value) n.events.value.leave c.self.invariant.leave in
    let long = length-map n.duties.value leave_at in
    let few = c.self.invariant.few in
    let events = c.self.invariant.leave_events.long in
    let all : length n.events.value.departures.items ≤ 200_000 = omega (arith, moments, long, few, events) in
    subst (λ (net : Net). length net.departures ≤ 200_000) c.self.view_is all
