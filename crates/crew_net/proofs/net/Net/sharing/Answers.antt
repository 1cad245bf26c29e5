use Rattle.std.proofs.Common.{◌≤◌, List, length, refl, sym, ap, subst, ℕ}
use Rattle.crew_net.specs.Nets.{RiseByCode}
use Rattle.crew_net.specs.Machinery.Held.{HaveSameEvents, IsHeld}
use Rattle.crew_net.specs.declared.events.Events.{Events}
use Rattle.crew_net.specs.Nets.{Net}
use Rattle.crew_net.proofs.Beside.{held-beside}
use Rattle.crew_net.proofs.Forward.{ends-no-earlier}
use Rattle.crew_net.proofs.Shown.{arrivals-are, departures-are}
use Rattle.crew_net.proofs.net.Net.sharing.Goals as goal

held : (c : goal.After-result-1) → IsHeld c.self.inside.settings c.in_ok-bases.bases.items c.args.duties.value c.in_ok-events.events.value.leave c.in_ok-events.events.value.arrive c.in_ok-events.events.value.departures.items c.in_ok-events.events.value.arrivals.items c.in_ok-events.events.value.by_report.items
held c =
    let n = c.self.inside in
    let after = c.args.duties.value in
    let bases = c.in_ok-bases.bases.items in
    let same : HaveSameEvents n.duties.value after = subst (λ (net : Net). HaveSameEvents net.duties after) (sym c.self.view_is) c.requires.same in
    let few = subst (λ (bs : List (List ℕ)). length bs ≤ 16) (sym c.in_ok-bases.ensures.bases) c.held_bases.ensures.few in
    let rising = subst RiseByCode (sym c.in_ok-bases.ensures.bases) c.held_bases.ensures.rising in
    let forward = ends-no-earlier c.args.self.now.settings c.args.timetable.now after c.held_bases.ensures.sound c.requires.duties in
    subst (λ (e : Events). IsHeld n.settings bases after e.leave e.arrive e.departures.items e.arrivals.items e.by_report.items) (sym c.in_ok-events.ensures)
    (held-beside n.settings n.bases.items bases n.duties.value after n.events.value.leave n.events.value.arrive n.events.value.departures.items n.events.value.arrivals.items n.events.value.by_report.items c.self.invariant same c.requires.duties.rising c.requires.few few rising forward)

pub invariant_of-result : goal.invariant_of-result
invariant_of-result c = held c

pub returns : goal.returns
returns c =
    let n = c.self.inside in
    let e = c.in_ok-events.events.value in
    let bases = c.in_ok-bases.bases.items in
    let all = held c in
    record {
      settings = ap (λ (net : Net). net.settings) c.self.view_is;
      bases = c.in_ok-bases.ensures.bases;
      duties = refl;
      departures = departures-are n.settings bases c.args.duties.value e.leave e.arrive e.departures.items e.arrivals.items e.by_report.items all;
      arrivals = arrivals-are n.settings bases c.args.duties.value e.leave e.arrive e.departures.items e.arrivals.items e.by_report.items all;
      by_report = all.in_time;
    }
