-- Departures in order of report, and where events stand.
use Rattle.std.proofs.Common.{◌≡◌, ◌∙◌, ◌<◌, ◌≤◌, ℕ, pos, List, [], length, get_or, Some, sym, ap, ⊎_elim, arith, ◌⊎◌}
use Rattle.std.specs.Prelude.{slice_get}
use Rattle.std.specs.Cmp.{IsTotalOrder, int_cmp_total, on_total, then_total}
use Rattle.std.specs.List.{range_with_len}
use Rattle.std.specs.declared.cmp.Ordering.{Ordering}
use Rattle.std.specs.declared.cmp.Ordering.TheVariants.{Less, Equal}
use Rattle.std.proofs.lemmas.Cmp.{tied_itself}
use Rattle.std.proofs.lemmas.List.{length-map}
use Rattle.std.proofs.lemmas.List.FromFn.{get_or-range_with_len, length-range_with_len}
use Rattle.std.proofs.lemmas.List.Sorted.{IsPermutation-sym, length_permutation}
use Rattle.crew_flights.specs.Codes.{code_cmp_total}
use Rattle.crew_net.specs.Events.{AreEvents, arrival_cmp, departure_cmp}
use Rattle.crew_net.specs.Nets.{AreByReport, Net}
use Rattle.crew_pairing.specs.Events.{arrival_of, departure_of}
use Rattle.crew_pairing.specs.declared.duty.Duty.{Duty}
use Rattle.crew_pairing.specs.declared.events.Arrival.{Arrival}
use Rattle.crew_pairing.specs.declared.events.Departure.{Departure}
use Rattle.crew_pairing.proofs.Shuffled.{Member-shuffled}
use Rattle.crew_resource.specs.Members.{Member}
use Rattle.crew_net.specs.Machinery.Numbered.{AreDistinct}
use Rattle.crew_net.specs.Positions.{departure_at, in_order}
use Rattle.crew_net.proofs.Numbers.{get-within}
use Rattle.crew_net.proofs.Slices.{at-within, get-at, map-get, map-got, member-got, member-place, permuted-place}

less-equal : (o : Ordering) → o ≡ Less → o ≡ Equal → ⊥
less-equal o p q = (let r : Less ≡ Equal = sym p ∙ q in let k : ⊥ = (cc) in k)

apart : (i j : ℕ) → (i < j → ⊥) → (j < i → ⊥) → i ≡ j
apart i j p q = ⊎_elim (λ l. absurd (p l)) (⊎_elim (λ e. e) (λ l. absurd (q l))) (compared i j)
  where
    compared : (i j : ℕ) → (i < j) ⊎ ((i ≡ j) ⊎ (j < i))
    compared i j = grind arith

-- events that rise are distinct
rising-distinct : {E : Type 0} (cmp : E → E → Ordering) (es : List E) → IsTotalOrder cmp
    → ((i j : ℕ) (a b : E) → i < j → slice_get es i ≡ Some a → slice_get es j ≡ Some b → cmp a b ≡ Less) → AreDistinct es
rising-distinct cmp es total rising i j e p q =
    let itself = tied_itself total e in
    apart i j (λ l. less-equal (cmp e e) (rising i j e e l p q) itself) (λ l. less-equal (cmp e e) (rising j i e e l q p) itself)

departure-total : IsTotalOrder departure_cmp
departure-total = then_total (on_total (λ (g : Departure). g.airport) code_cmp_total) (on_total (λ (g : Departure). g.report) int_cmp_total)

arrival-total : IsTotalOrder arrival_cmp
arrival-total = then_total (on_total (λ (x : Arrival). x.airport) code_cmp_total) (on_total (λ (x : Arrival). x.release) int_cmp_total)

pub later : (i j : ℕ) → (j ≤ i → ⊥) → i < j
later i j h = ⊎_elim (λ l. absurd (h l)) (λ l. l) (either i j)
  where
    either : (i j : ℕ) → (j ≤ i) ⊎ (i < j)
    either i j = grind arith

pub arrivals-distinct : (net : Net) → AreEvents arrival_of arrival_cmp net.duties net.arrivals → AreDistinct net.arrivals
arrivals-distinct net arrives = rising-distinct arrival_cmp net.arrivals arrival-total arrives.rising

module _ (net : Net) (departs : AreEvents departure_of departure_cmp net.duties net.departures) (ordered : AreByReport net.departures net.by_report) where
  departures-distinct : AreDistinct net.departures
  departures-distinct = rising-distinct departure_cmp net.departures departure-total departs.rising

  -- the place of each departure is one
  pub place-within : (i p : ℕ) → slice_get net.by_report i ≡ Some p → p < length net.departures
  place-within i p h =
      let m = Member-shuffled net.by_report (range_with_len 0 (length net.departures)) p (IsPermutation-sym _ _ ordered.all) (member-got net.by_report i p h) in
      let k = member-place (range_with_len 0 (length net.departures)) p m in
      let l = get-within (range_with_len 0 (length net.departures)) k.0 p k.1 in
      let n = length-range_with_len 0 (length net.departures) in
      let w : k.0 < length net.departures = omega (arith, l, n) in
      let v = sym (get-at (range_with_len 0 (length net.departures)) k.0 p 0 k.1) ∙ get_or-range_with_len 0 (length net.departures) k.0 0 w in
      omega (arith, w, v)

  abbrev nowhere : Departure
  nowhere = record { airport = []; report = pos 0 }

  pub in-order-at : (i : ℕ) (g : Departure) → slice_get (in_order net) i ≡ Some g → (p : ℕ) × (slice_get net.by_report i ≡ Some p) × (slice_get net.departures p ≡ Some g)
  in-order-at i g h =
      let k = map-got (departure_at net.departures) net.by_report i g h in
      (k.0, k.1, at-within net.departures k.0 nowhere (place-within i k.0 k.1) ∙ ap Some k.2)

  pub in-order-of : (i p : ℕ) (g : Departure) → slice_get net.by_report i ≡ Some p → slice_get net.departures p ≡ Some g → slice_get (in_order net) i ≡ Some g
  in-order-of i p g h k = map-get (departure_at net.departures) net.by_report i p h ∙ ap Some (get-at net.departures p g nowhere k)

  pub in-order-distinct : AreDistinct (in_order net)
  in-order-distinct i j g p q =
      let a = in-order-at i g p in
      let b = in-order-at j g q in
      let same = departures-distinct a.0 b.0 g a.2 b.2 in
      permuted-place (length net.departures) net.by_report ordered.all i j a.0 a.1 (b.1 ∙ ap Some (sym same))

  pub leaves-in : (d : Duty) → Member net.duties d → Member (in_order net) (departure_of d)
  leaves-in d m =
      let k = member-place net.departures (departure_of d) (departs.every d m) in
      let l = get-within net.departures k.0 (departure_of d) k.1 in
      let n = length-range_with_len 0 (length net.departures) in
      let w : k.0 < length (range_with_len 0 (length net.departures)) = omega (arith, l, n) in
      let v = get_or-range_with_len 0 (length net.departures) k.0 0 l in
      let here : get_or (range_with_len 0 (length net.departures)) k.0 0 ≡ k.0 = omega (arith, v) in
      let stands : Member (range_with_len 0 (length net.departures)) k.0 = member-got _ k.0 k.0 (at-within (range_with_len 0 (length net.departures)) k.0 0 w ∙ ap Some here) in
      let q = member-place net.by_report k.0 (Member-shuffled _ _ k.0 ordered.all stands) in
      member-got (in_order net) q.0 (departure_of d) (in-order-of q.0 k.0 (departure_of d) q.1 k.1)

  pub in-order-long : length (in_order net) ≡ length net.by_report
  in-order-long = length-map net.by_report (departure_at net.departures)

  pub by-report-long : length net.by_report ≡ length net.departures
  by-report-long = length_permutation (range_with_len 0 (length net.departures)) net.by_report ordered.all ∙ length-range_with_len 0 (length net.departures)
