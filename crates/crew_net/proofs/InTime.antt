-- What a network holds, as its events in order of time.
use Rattle.std.proofs.Common.{◌≡◌, ◌<◌, ◌≤◌, ◌∷◌, ◌∙◌, [], ℕ, List, Some, length, get_or, map, sym, ap, subst, arith}
use Rattle.std.specs.Prelude.{slice_get}
use Rattle.std.specs.List.{range_with_len}
use Rattle.std.proofs.lemmas.List.{length-map}
use Rattle.std.proofs.lemmas.List.FromFn.{get_or-range_with_len, length-range_with_len}
use Rattle.std.proofs.lemmas.List.Sorted.{IsPermutation-sym, length_permutation}
use Rattle.std.proofs.lemmas.Option.{slice_get-get_or}
use Rattle.crew_pairing.proofs.Shuffled.{Member-shuffled}
use Rattle.crew_pairing.proofs.Tree.{slice_get-within}
use Rattle.crew_pairing.specs.declared.duty.Duty.{Duty}
use Rattle.crew_pairing.specs.declared.events.Arrival.{Arrival}
use Rattle.crew_pairing.specs.declared.events.Departure.{Departure}
use Rattle.crew_resource.proofs.Members.{Member-at}
use Rattle.crew_resource.specs.Members.{Member}
use Rattle.crew_pairing.specs.crew_rules.declared.settings.Settings.{Settings}
use Rattle.crew_net.specs.Events.{leaves_at}
use Rattle.crew_net.specs.Machinery.Held.{IsHeld, leave_at}
use Rattle.crew_net.specs.Nets.{AreArrivalPlaces, AreByReport, Net}
use Rattle.crew_net.specs.Ranks.{ranks_where}
use Rattle.crew_net.specs.declared.timeline.Timeline.{Timeline}
use Rattle.crew_net.proofs.ArrivalPlaces.{ranks-out}
use Rattle.crew_net.proofs.ByReport.{few-moments}
use Rattle.crew_net.proofs.EventOrder.{Member-index}
use Rattle.crew_net.proofs.Laid.{IsInTime}
use Rattle.crew_net.proofs.Shown.{arrivals-are, departures-are}

pub record IsTimed (net : Net) : Type 0 where
  pub timed : IsInTime net
  pub few : length net.by_report ≤ 200_000

pub is-timed : (s : Settings) (bases : List (List ℕ)) (duties : List Duty) (leave arrive : Timeline) (departures : List Departure) (arrivals : List Arrival) (by_report : List ℕ) → IsHeld s bases duties leave arrive departures arrivals by_report
    → IsTimed (record { settings = s; bases = bases; duties = duties; departures = departures; arrivals = arrivals; by_report = by_report })
is-timed s bases duties leave arrive departures arrivals by_report held = record {
  timed = record {
    departs = departures-are s bases duties leave arrive departures arrivals by_report held;
    arrives = arrivals-are s bases duties leave arrive departures arrivals by_report held;
    ordered = held.in_time;
    forward = held.forward;
  };
  few =
      let moments = few-moments (map leave_at duties) leave held.leave in
      let long = length-map duties leave_at in
      let most = held.few in
      let events = held.leave_events.long in
      let order = length_permutation (range_with_len 0 (length departures)) by_report held.in_time.all in
      let range = length-range_with_len 0 (length departures) in
      omega (arith, moments, long, most, events, order, range);
}

pub item-at : {X : Type 0} (xs : List X) (k : ℕ) → k < length xs → (x : X) × (slice_get xs k ≡ Some x)
item-at [] k h = absurd (omega (arith, h))
item-at (x ∷ xs) k h = (get_or (x ∷ xs) k x, slice_get-get_or (x ∷ xs) k x h)

module _ (net : Net) (order : List ℕ) (same : order ≡ net.by_report) (i : ℕ) (h : i < length order) where
  pub order-at : slice_get net.by_report i ≡ Some (get_or order i 0)
  order-at = ap (λ (ns : List ℕ). slice_get ns i) (sym same) ∙ slice_get-get_or order i 0 h

  -- each place is that of a departure
  pub place-within : AreByReport net.departures net.by_report → get_or order i 0 < length net.departures
  place-within ordered =
      let count = length net.departures in
      let p = get_or order i 0 in
      let m = Member-shuffled net.by_report (range_with_len 0 count) p (IsPermutation-sym (range_with_len 0 count) net.by_report ordered.all) (Member-at net.by_report i p order-at) in
      let k = Member-index (range_with_len 0 count) p m in
      let long = length-range_with_len 0 count in
      let l = k.1 in
      let within : k.0 < count = omega (arith, l, long) in
      let value = get_or-range_with_len 0 count k.0 0 within in
      let is = k.2 0 in
      omega (arith, value, is, within)

module _ (net : Net) (g : Departure) (ranks : List ℕ) (ranks-are : ranks ≡ ranks_where (leaves_at g) net.duties) (rank : ℕ) (m : Member ranks rank) where
  leaver : (d : Duty) × (slice_get net.duties rank ≡ Some d)
  leaver =
      let x = ranks-out (leaves_at g) net.duties rank (subst (λ (rs : List ℕ). Member rs rank) ranks-are m) in
      (x.0, x.1)

  -- each rank is that of a duty, whose arrival is one
  pub leaver-within : rank < length net.duties
  leaver-within = slice_get-within net.duties rank leaver.0 leaver.1

  pub reach-within : (places : List ℕ) → AreArrivalPlaces net places → get_or places rank 0 < length net.arrivals
  reach-within places reach = slice_get-within net.arrivals (get_or places rank 0) _ (reach.exact rank leaver.0 leaver.1)
