-- What a network shows of what it keeps.
use Rattle.std.proofs.Common.{◌≡◌, ◌<◌, ◌+◌, ◌-◌, ℕ, ℤ, pos, ◌≤ℤ◌, ◌+ℤ◌, ◌-ℤ◌, List, Some, Bool, true, length, refl, sym, ap, subst, ◌∙◌, arith, get_or, take, drop, map}
use Rattle.std.specs.Prelude.{slice_get, IsPermutation, IsSorted}
use Rattle.std.specs.Ordering.{int_eq, nat_cmp}
use Rattle.crew_pairing.specs.Events.{arrival_of, departure_of, may_wait}
use Rattle.crew_flights.specs.Codes.{is_code}
use Rattle.crew_net.specs.Events.{AreEvents, IsWindow, arrival_cmp, arrives_at, departure_cmp, leaves_at}
use Rattle.crew_net.specs.Machinery.Held.{IsHeld, IsLeft, IsReached, arrive_at, leave_at}
use Rattle.crew_net.specs.Machinery.Moments.{IsReal, moment}
use Rattle.crew_net.specs.Machinery.Timelines.{IsWithin}
use Rattle.crew_net.specs.Nets.{ranks_before}
use Rattle.crew_net.specs.Ranks.{places_from, ranks_where}
use Rattle.crew_net.specs.declared.timeline.Timeline.{Timeline}
use Rattle.crew_net.specs.declared.window.Window.{Window}
use Rattle.crew_net.proofs.EventOrder.{are-events, event-at}
use Rattle.crew_net.proofs.Geometry.{follows, rest-within, same-moment, waits}
use Rattle.crew_net.proofs.Places.{places-map, places-same}
use Rattle.crew_net.proofs.Segments.{is_within, moment-ranks, window-ranks, within-agrees}
use Rattle.crew_pairing.specs.Pairings.{may_stand_after}
use Rattle.crew_pairing.specs.declared.duty.Duty.{Duty}
use Rattle.crew_pairing.specs.declared.events.Arrival.{Arrival}
use Rattle.crew_pairing.specs.declared.events.Departure.{Departure}
use Rattle.crew_pairing.proofs.Tree.{Each-map, Each-member}
use Rattle.crew_resource.specs.Members.{Member}
use Rattle.crew_pairing.specs.crew_rules.declared.settings.Settings.{Settings}

module _ (s : Settings) (bases : List (List ℕ)) (duties : List Duty) (leave arrive : Timeline) (departures : List Departure) (arrivals : List Arrival) (by_report : List ℕ) (held : IsHeld s bases duties leave arrive departures arrivals by_report) where
  left : (d : Duty) → Member duties d → (is_code d.from ≡ true) × IsReal d.report
  left d m = let h = Each-member IsLeft duties d held.left m in (h.airport, h.time)

  reached : (d : Duty) → Member duties d → (is_code d.to ≡ true) × IsReal d.release
  reached d m = let h = Each-member IsReached duties d held.reached m in (h.airport, h.time)

  pub departures-are : AreEvents departure_of departure_cmp duties departures
  departures-are = are-events (λ (g : Departure). g.airport) (λ (g : Departure). g.report) departure_of departure_cmp (λ e f p q i. record { airport = p i; report = q i }) (λ e f. refl) duties left leave departures held.leave held.leave_events

  pub arrivals-are : AreEvents arrival_of arrival_cmp duties arrivals
  arrivals-are = are-events (λ (x : Arrival). x.airport) (λ (x : Arrival). x.release) arrival_of arrival_cmp (λ e f p q i. record { airport = p i; release = q i }) (λ e f. refl) duties reached arrive arrivals held.arrive held.arrive_events

  pub departure-at : (k : ℕ) (g : Departure) → slice_get departures k ≡ Some g
      → (k < length leave.moments.items) × (is_code g.airport ≡ true) × IsReal g.report × ((m : ℤ) → get_or leave.moments.items k m ≡ moment g.airport g.report)
  departure-at k g h = event-at (λ (g : Departure). g.airport) (λ (g : Departure). g.report) departure_of departure_cmp (λ e f p q i. record { airport = p i; report = q i }) (λ e f. refl) duties left leave.moments.items departures held.leave_events k g h

  pub departures-real : (g : Departure) → Member departures g → IsReal g.report
  departures-real g m =
      let e = departures-are.some g m in
      subst (λ (z : Departure). IsReal z.report) e.2 (left e.0 e.1).1

  pub arrival-at : (k : ℕ) (x : Arrival) → slice_get arrivals k ≡ Some x
      → (k < length arrive.moments.items) × (is_code x.airport ≡ true) × IsReal x.release × ((m : ℤ) → get_or arrive.moments.items k m ≡ moment x.airport x.release)
  arrival-at k x h = event-at (λ (x : Arrival). x.airport) (λ (x : Arrival). x.release) arrival_of arrival_cmp (λ e f p q i. record { airport = p i; release = q i }) (λ e f. refl) duties reached arrive.moments.items arrivals held.arrive_events k x h

  -- the duties that leave at an event
  pub leaving-ranks : (k d : ℕ) (g : Departure) → slice_get departures k ≡ Some g
      → take (get_or leave.starts.items (k + 1) d - get_or leave.starts.items k d) (drop (get_or leave.starts.items k d) leave.places.items) ≡ ranks_where (leaves_at g) duties
  leaving-ranks k d g h =
      let at = departure-at k g h in
      let test : Duty → Bool = λ e. int_eq (moment g.airport g.report) (leave_at e) in
      moment-ranks (map leave_at duties) leave held.leave k d (pos 0) at.0
      ∙ (ap (λ (m : ℤ). places_from 0 (int_eq m) (map leave_at duties)) (at.3 (pos 0))
      ∙ (places-map leave_at (int_eq (moment g.airport g.report)) 0 duties
      ∙ places-same test (leaves_at g) 0 duties (Each-map IsLeft (λ (e : Duty). test e ≡ leaves_at g e) duties (λ e l. same-moment g.airport e.from g.report e.report at.1 l.airport at.2 l.time) held.left)))

  -- the duties that arrive at an event
  pub arriving-ranks : (k d : ℕ) (x : Arrival) → slice_get arrivals k ≡ Some x
      → take (get_or arrive.starts.items (k + 1) d - get_or arrive.starts.items k d) (drop (get_or arrive.starts.items k d) arrive.places.items) ≡ ranks_where (arrives_at x) duties
  arriving-ranks k d x h =
      let at = arrival-at k x h in
      let test : Duty → Bool = λ e. int_eq (moment x.airport x.release) (arrive_at e) in
      moment-ranks (map arrive_at duties) arrive held.arrive k d (pos 0) at.0
      ∙ (ap (λ (m : ℤ). places_from 0 (int_eq m) (map arrive_at duties)) (at.3 (pos 0))
      ∙ (places-map arrive_at (int_eq (moment x.airport x.release)) 0 duties
      ∙ places-same test (arrives_at x) 0 duties (Each-map IsReached (λ (e : Duty). test e ≡ arrives_at x e) duties (λ e l. same-moment x.airport e.to x.release e.release at.1 l.airport at.2 l.time) held.reached)))

  -- the arrivals that a departure may wait on
  pub waiting-window : (g : Departure) (w : Window) → is_code g.airport ≡ true → IsReal g.report → IsWithin arrive.moments.items (moment g.airport (g.report -ℤ pos s.max_rest)) (moment g.airport (g.report -ℤ pos 600)) w
      → IsWindow (λ x. may_wait s x g) arrivals w
  waiting-window g w code real within = record {
    ordered = within.ordered;
    within = (let b = within.bound in let l = held.arrive_events.long in omega (arith, b, l));
    exact = λ k x h.
        let at = arrival-at k x h in
        let m = at.3 (pos 0) in
        let exact = within.exact k (pos 0) at.0 in
        let rest = waits s.max_rest x.airport g.airport x.release g.report held.checked.max_rest_most at.1 code at.2 real in
        let low = moment g.airport (g.report -ℤ pos s.max_rest) in
        let high = moment g.airport (g.report -ℤ pos 600) in (
          λ t. exact.0 (subst (λ (y : ℤ). (low ≤ℤ y) × (y ≤ℤ high)) (sym m) (rest.0 t)),
          λ p. rest.1 (subst (λ (y : ℤ). (low ≤ℤ y) × (y ≤ℤ high)) m (exact.1 p)),
        );
  }

  -- the departures that may follow an arrival
  pub following-window : (x : Arrival) (w : Window) → is_code x.airport ≡ true → IsReal x.release → IsWithin leave.moments.items (moment x.airport (x.release +ℤ pos 600)) (moment x.airport (x.release +ℤ pos s.max_rest)) w
      → IsWindow (may_wait s x) departures w
  following-window x w code real within = record {
    ordered = within.ordered;
    within = (let b = within.bound in let l = held.leave_events.long in omega (arith, b, l));
    exact = λ k g h.
        let at = departure-at k g h in
        let m = at.3 (pos 0) in
        let exact = within.exact k (pos 0) at.0 in
        let rest = follows s.max_rest x.airport g.airport x.release g.report held.checked.max_rest_most code at.1 real at.2 in
        let low = moment x.airport (x.release +ℤ pos 600) in
        let high = moment x.airport (x.release +ℤ pos s.max_rest) in (
          λ t. exact.0 (subst (λ (y : ℤ). (low ≤ℤ y) × (y ≤ℤ high)) (sym m) (rest.0 t)),
          λ p. rest.1 (subst (λ (y : ℤ). (low ≤ℤ y) × (y ≤ℤ high)) m (exact.1 p)),
        );
  }

  -- the duties that may stand just before one
  pub before-ranks : (d : Duty) → Member duties d → (w : Window) (f : ℕ) → IsWithin arrive.moments.items (moment d.from (d.report -ℤ pos s.max_rest)) (moment d.from (d.report -ℤ pos 600)) w
      → (sorted : List ℕ) → IsPermutation (take (get_or arrive.starts.items w.end f - get_or arrive.starts.items w.from f) (drop (get_or arrive.starts.items w.from f) arrive.places.items)) sorted
      → IsSorted nat_cmp sorted → sorted ≡ ranks_before s duties d
  before-ranks d m w f within sorted perm up =
      let mine = left d m in
      let low = moment d.from (d.report -ℤ pos s.max_rest) in
      let high = moment d.from (d.report -ℤ pos 600) in
      let test : Duty → Bool = λ e. is_within low high (arrive_at e) in
      window-ranks (map arrive_at duties) arrive held.arrive (is_within low high) w f within.ordered within.bound (within-agrees arrive.moments.items low high w within) sorted perm up
      ∙ (places-map arrive_at (is_within low high) 0 duties
      ∙ places-same test (λ (e : Duty). may_stand_after s e d) 0 duties (Each-map IsReached (λ (e : Duty). test e ≡ may_stand_after s e d) duties (λ e l. rest-within s.max_rest e.to d.from e.release d.report held.checked.max_rest_most l.airport mine.0 l.time mine.1) held.reached))
