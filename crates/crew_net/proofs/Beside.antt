-- What a network keeps holds of other duties that leave and arrive alike.
use Rattle.std.proofs.Common.{◌≡◌, ◌≤◌, ◌≤ℤ◌, ℕ, ℤ, List, length, map, sym, ap, subst, true, ◌∙◌}
use Rattle.std.proofs.lemmas.Simd.{map-map}
use Rattle.crew_flights.specs.Codes.{is_code}
use Rattle.crew_net.specs.Machinery.Held.{AreAt, HaveSameEvents, IsHeld, IsLeft, IsReached}
use Rattle.crew_net.specs.Machinery.Moments.{IsReal, moment}
use Rattle.crew_net.specs.Machinery.Timelines.{IsTimeline}
use Rattle.crew_net.specs.Nets.{RiseByCode}
use Rattle.crew_net.specs.declared.timeline.Timeline.{Timeline}
use Rattle.crew_net.proofs.EventsReal.{each-of}
use Rattle.crew_pairing.proofs.Tree.{Each-member}
use Rattle.crew_pairing.specs.Duties.{RiseByKey}
use Rattle.crew_pairing.specs.Events.{arrival_of, departure_of}
use Rattle.crew_pairing.specs.declared.duty.Duty.{Duty}
use Rattle.crew_pairing.specs.declared.events.Arrival.{Arrival}
use Rattle.crew_pairing.specs.declared.events.Departure.{Departure}
use Rattle.crew_resource.specs.Members.{Each, Member}
use Rattle.crew_resource.proofs.Members.{Member-map_in, Member-map_out}
use Rattle.crew_pairing.specs.crew_rules.declared.settings.Settings.{Settings}

module _ {E : Type 0} (event_of : Duty → E) (before after : List Duty) (same : map event_of before ≡ map event_of after) where
  -- a duty of the other list that has the same event
  its-twin : (d : Duty) → Member before d → (e : Duty) × Member after e × (event_of e ≡ event_of d)
  its-twin d m = Member-map_out event_of after (event_of d) (subst (λ (es : List E). Member es (event_of d)) same (Member-map_in event_of before d m))

  same-map : {Y : Type 0} (f : E → Y) → map (λ d. f (event_of d)) before ≡ map (λ d. f (event_of d)) after
  same-map f = sym (map-map f event_of before) ∙ (ap (map f) same ∙ map-map f event_of after)

  same-at : (f : E → ℤ) (moments : List ℤ) (events : List E) → AreAt event_of (λ d. f (event_of d)) before moments events
      → AreAt event_of (λ d. f (event_of d)) after moments events
  same-at f moments events at = record {
    long = at.long;
    own = λ k e m h.
        let own = at.own k e m h in
        let twin = its-twin own.0 own.1 in
        (twin.0, twin.1, twin.2 ∙ own.2, ap f twin.2 ∙ own.3);
  }

abbrev leave : Departure → ℤ
leave g = moment g.airport g.report

abbrev arrive : Arrival → ℤ
arrive x = moment x.airport x.release

same-left : (before after : List Duty) → map departure_of before ≡ map departure_of after → Each IsLeft before → Each IsLeft after
same-left before after same each = each-of IsLeft after (λ d m.
    let twin = its-twin departure_of after before (sym same) d m in
    let left = Each-member IsLeft before twin.0 each twin.1 in
    record {
      airport = subst (λ (g : Departure). is_code g.airport ≡ true) twin.2 left.airport;
      time = subst (λ (g : Departure). IsReal g.report) twin.2 left.time;
    })

same-reached : (before after : List Duty) → map arrival_of before ≡ map arrival_of after → Each IsReached before → Each IsReached after
same-reached before after same each = each-of IsReached after (λ d m.
    let twin = its-twin arrival_of after before (sym same) d m in
    let reached = Each-member IsReached before twin.0 each twin.1 in
    record {
      airport = subst (λ (x : Arrival). is_code x.airport ≡ true) twin.2 reached.airport;
      time = subst (λ (x : Arrival). IsReal x.release) twin.2 reached.time;
    })

pub held-beside : (s : Settings) (old_bases bases : List (List ℕ)) (before after : List Duty) (leaving arriving : Timeline) (departures : List Departure) (arrivals : List Arrival) (by_report : List ℕ)
    → IsHeld s old_bases before leaving arriving departures arrivals by_report → HaveSameEvents before after
    → RiseByKey after → length after ≤ 200_000 → length bases ≤ 16 → RiseByCode bases
    → ((d : Duty) → Member after d → d.report ≤ℤ d.release)
    → IsHeld s bases after leaving arriving departures arrivals by_report
held-beside s old_bases bases before after leaving arriving departures arrivals by_report held same rising few few_bases rising_bases forward = record {
  checked = held.checked;
  rising = rising;
  few = few;
  few_bases = few_bases;
  rising_bases = rising_bases;
  left = same-left before after same.0 held.left;
  reached = same-reached before after same.1 held.reached;
  forward = forward;
  leave = subst (λ (ats : List ℤ). IsTimeline ats leaving) (same-map departure_of before after same.0 leave) held.leave;
  arrive = subst (λ (ats : List ℤ). IsTimeline ats arriving) (same-map arrival_of before after same.1 arrive) held.arrive;
  leave_events = same-at departure_of before after same.0 leave leaving.moments.items departures held.leave_events;
  arrive_events = same-at arrival_of before after same.1 arrive arriving.moments.items arrivals held.arrive_events;
  in_time = held.in_time;
}
