use Rattle.std.proofs.Common.{◌≡◌, ap, sym, subst, length, map, arith, IsPermutation, List, ℕ}
use Rattle.std.proofs.lemmas.List.{length-map}
use Rattle.crew_net.proofs.ByReport.{few-moments}
use Rattle.crew_net.proofs.EventsReal.{events-real}
use Rattle.crew_net.proofs.Keyed.{gathered-keys}
use Rattle.crew_net.proofs.SlotKeys.{arriving-bounded, leaving-bounded}
use Rattle.crew_net.specs.Machinery.Held.{arrive_at, leave_at}
use Rattle.crew_net.specs.Machinery.Moments.{IsReal}
use Rattle.crew_net.specs.Nets.{AreByReport}
use Rattle.crew_pairing.specs.declared.events.Departure.{Departure}
use Rattle.crew_resource.specs.Members.{Each}
use Rattle.crew_net.proofs.events.events_of.Goals as goal

pub of-requires-clause-keys : goal.of-requires-clause-keys
of-requires-clause-keys c = (
  map leave_at c.args.duties.now,
  gathered-keys (map leave_at c.args.duties.now) c.in_ok-leave.leave.items _ c.in_ok-leave.ensures.leave (subst (λ (l : List ℕ). IsPermutation l c.in_ok-gathered.field-0.items) c.deref.ensures.value c.in_ok-gathered.ensures.same),
  leaving-bounded c.args.duties.now c.in_ok-leave.ensures.left,
)

pub of-requires-2-clause-keys : goal.of-requires-2-clause-keys
of-requires-2-clause-keys c = (map arrive_at c.args.duties.now, c.in_ok-leave.ensures.arrive, arriving-bounded c.args.duties.now c.in_ok-leave.ensures.reached)

pub departures_of-requires : goal.departures_of-requires
departures_of-requires c = c.in_ok-leave-2.ensures (map leave_at c.args.duties.now) (gathered-keys (map leave_at c.args.duties.now) c.in_ok-leave.leave.items _ c.in_ok-leave.ensures.leave (subst (λ (l : List ℕ). IsPermutation l c.in_ok-gathered.field-0.items) c.deref.ensures.value c.in_ok-gathered.ensures.same))

pub by_report-requires-clause-few : goal.by_report-requires-clause-few
by_report-requires-clause-few c =
    let duties = c.args.duties.now in
    let few = few-moments (map leave_at duties) c.in_ok-leave-2.leave (c.in_ok-leave-2.ensures (map leave_at duties) (gathered-keys (map leave_at duties) c.in_ok-leave.leave.items _ c.in_ok-leave.ensures.leave (subst (λ (l : List ℕ). IsPermutation l c.in_ok-gathered.field-0.items) c.deref.ensures.value c.in_ok-gathered.ensures.same))) in
    let all = length-map duties leave_at in
    let most = c.requires in
    let events = c.in_ok-departures.ensures.long in
    let shown : length c.deref-2.result.now ≡ length c.in_ok-departures.departures.items = ap length c.deref-2.ensures.value in
    omega (arith, few, all, most, events, shown)

pub by_report-requires-clause-real : goal.by_report-requires-clause-real
by_report-requires-clause-real c =
    subst (Each (λ (g : Departure). IsReal g.report)) (sym c.deref-2.ensures.value)
    (events-real c.args.duties.now c.in_ok-leave-2.leave.moments.items c.in_ok-departures.departures.items c.in_ok-departures.ensures c.in_ok-leave.ensures.left)

pub returns : goal.returns
returns c = record {
  left = c.in_ok-leave.ensures.left;
  reached = c.in_ok-leave.ensures.reached;
  leave = c.in_ok-leave-2.ensures (map leave_at c.args.duties.now) (gathered-keys (map leave_at c.args.duties.now) c.in_ok-leave.leave.items _ c.in_ok-leave.ensures.leave (subst (λ (l : List ℕ). IsPermutation l c.in_ok-gathered.field-0.items) c.deref.ensures.value c.in_ok-gathered.ensures.same));
  arrive = c.in_ok-arrive.ensures (map arrive_at c.args.duties.now) c.in_ok-leave.ensures.arrive;
  departures = c.in_ok-departures.ensures;
  arrivals = c.in_ok-arrivals.ensures;
  by_report = subst (λ (gs : List Departure). AreByReport gs c.in_ok-by_report.by_report.items) c.deref-2.ensures.value c.in_ok-by_report.ensures;
}
