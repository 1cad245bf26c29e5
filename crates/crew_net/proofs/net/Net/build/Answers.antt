use Rattle.std.proofs.Common.{◌≡◌, refl, rules, sym, subst}
use Rattle.crew_net.proofs.Forward.{ends-no-earlier}
use Rattle.crew_net.proofs.Shown.{arrivals-are, departures-are}
use Rattle.crew_net.specs.Machinery.Held.{IsHeld}
use Rattle.crew_net.specs.Events.{AreEvents, arrival_cmp, departure_cmp}
use Rattle.crew_net.specs.Nets.{AreByReport, RiseByCode}
use Rattle.crew_net.specs.declared.events.Events.{Events}
use Rattle.crew_pairing.specs.Events.{arrival_of, departure_of}
use Rattle.crew_net.proofs.net.Net.build.Goals as goal

pub invariant_of-result : goal.invariant_of-result
invariant_of-result c =
    let rising = subst RiseByCode (sym c.in_ok-bases.ensures.bases) c.held_bases.ensures.rising in
    let forward = ends-no-earlier c.args.settings.now c.args.timetable.now c.args.duties.value c.held_bases.ensures.sound c.requires.duties in
    search (rules, forward, rising)

pub returns : goal.returns
returns c =
    let rising = subst RiseByCode (sym c.in_ok-bases.ensures.bases) c.held_bases.ensures.rising in
    let forward = ends-no-earlier c.args.settings.now c.args.timetable.now c.args.duties.value c.held_bases.ensures.sound c.requires.duties in
    let s = c.args.settings.now in
    let bases = c.in_ok-bases.bases.items in
    let duties = c.args.duties.value in
    let made = c.in_ok-events.events in
    let held : IsHeld s bases duties made.leave made.arrive made.departures.items made.arrivals.items made.by_report.items = search (rules, forward, rising) in
    let same : made ≡ c.in_ok-events-2.events.value = search rules in
    record {
      settings = refl;
      bases = c.in_ok-bases.ensures.bases;
      duties = refl;
      departures = subst (λ (e : Events). AreEvents departure_of departure_cmp duties e.departures.items) same (departures-are s bases duties made.leave made.arrive made.departures.items made.arrivals.items made.by_report.items held);
      by_report = subst (λ (e : Events). AreByReport e.departures.items e.by_report.items) same held.in_time;
      arrivals = subst (λ (e : Events). AreEvents arrival_of arrival_cmp duties e.arrivals.items) same (arrivals-are s bases duties made.leave made.arrive made.departures.items made.arrivals.items made.by_report.items held);
    }
