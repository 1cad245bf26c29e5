use Rattle.crew_pairing.specs.Events.{arrival_of}
use Rattle.std.proofs.Common.{◌≤◌, arith, length, map, subst}
use Rattle.std.proofs.lemmas.List.{length-map}
use Rattle.crew_net.specs.Events.{AreEvents, arrival_cmp}
use Rattle.crew_net.specs.Machinery.Held.{arrive_at}
use Rattle.crew_net.specs.Nets.{Net}
use Rattle.crew_net.proofs.ByReport.{few-moments}
use Rattle.crew_net.proofs.Shown.{arrivals-are}
use Rattle.crew_net.proofs.net.Net.arrivals.Goals as goal

pub returns-clause-exact : goal.returns-clause-exact
returns-clause-exact c =
    let n = c.self.inside in
    subst (λ (net : Net). AreEvents arrival_of arrival_cmp net.duties net.arrivals) c.self.view_is (arrivals-are n.settings n.bases.items n.duties.value n.events.value.leave n.events.value.arrive n.events.value.departures.items n.events.value.arrivals.items n.events.value.by_report.items c.self.invariant)

pub returns-clause-few : goal.returns-clause-few
returns-clause-few c =
    let n = c.self.inside in
    let moments = few-moments (map arrive_at n.duties.value) n.events.value.arrive c.self.invariant.arrive in
    let long = length-map n.duties.value arrive_at in
    let few = c.self.invariant.few in
    let events = c.self.invariant.arrive_events.long in
    let all : length n.events.value.arrivals.items ≤ 200_000 = omega (arith, moments, long, few, events) in
    subst (λ (net : Net). length net.arrivals ≤ 200_000) c.self.view_is all
