-- What may be waited on leaves before what waits.
use Rattle.std.proofs.Common.{◌≡◌, ◌∙◌, ◌<◌, ℕ, ℤ, pos, true, [], get_or, Some, sym, ap, arith}
use Rattle.std.specs.Prelude.{slice_get, int_le, ◌≤ℤ◌, ◌-ℤ◌}
use Rattle.std.proofs.lemmas.Bool.{and_parts}
use Rattle.std.proofs.lemmas.Int.{ints}
use Rattle.crew_net.proofs.Numbers.{at-arrival, at-departure, get-within}
use Rattle.crew_net.proofs.Orders.{in-order-at, later, leaves-in}
use Rattle.crew_net.proofs.Slices.{at-within}
use Rattle.crew_net.specs.Events.{AreEvents, arrival_cmp, departure_cmp}
use Rattle.crew_net.specs.Machinery.Numbered.{arrival_place, departure_place}
use Rattle.crew_net.specs.Nets.{AreByReport, Net}
use Rattle.crew_net.specs.Positions.{in_order}
use Rattle.crew_pairing.specs.Events.{IsSound, arrival_of, departure_of, may_wait}
use Rattle.crew_pairing.specs.declared.duty.Duty.{Duty}
use Rattle.crew_pairing.specs.declared.events.Departure.{Departure}
use Rattle.crew_resource.specs.Members.{Member}
use Rattle.crew_sweep.specs.Machinery.Numbered.{window_at}

rested : (from to : ℤ) (report : ℤ) (release most : ℤ) → from ≤ℤ release → int_le (pos 600) (to -ℤ release) ≡ true → to ≤ℤ from → ⊥
rested from to report release most p q r = grind (arith, ints)

elapsed : (report release : ℤ) → pos 0 ≤ℤ (release -ℤ report) → report ≤ℤ release
elapsed report release h = grind (arith, ints)

module _ (net : Net) (departs : AreEvents departure_of departure_cmp net.duties net.departures) (ordered : AreByReport net.departures net.by_report) where
  abbrev nowhere : Departure
  nowhere = record { airport = []; report = pos 0 }

  -- what may be waited on leaves before
  pub sealed-at : AreEvents arrival_of arrival_cmp net.duties net.arrivals → (e : Duty) (g : ℕ) → Member net.duties e → IsSound e → window_at net.settings (slice_get net.arrivals (arrival_place net.arrivals (arrival_of e))) (slice_get (in_order net) g) ≡ true
      → departure_place (in_order net) (departure_of e) < g
  sealed-at arrives e g m sound open' =
      let x = at-arrival net.arrivals (arrival_of e) (arrives.every e m) in
      later (departure_place (in_order net) (departure_of e)) g (λ before.
      let i = departure_place (in_order net) (departure_of e) in
      let left = at-departure (in_order net) (departure_of e) (leaves-in net departs ordered e m) in
      let inside = get-within (in_order net) i (departure_of e) left in
      let here = at-within (in_order net) g nowhere (omega (arith, inside, before)) in
      let to = get_or (in_order net) g nowhere in
      let waits : may_wait net.settings (arrival_of e) to ≡ true =
      ap (λ o. window_at net.settings o (Some to)) (sym x) ∙ (ap (window_at net.settings (slice_get net.arrivals (arrival_place net.arrivals (arrival_of e)))) (sym here) ∙ open') in
      let rest = and_parts _ _ (and_parts _ _ waits).1 in
      let a = in-order-at net departs ordered g to here in
      let b = in-order-at net departs ordered i (departure_of e) left in
      let after = ordered.rising g i a.0 b.0 to (departure_of e) before a.1 b.1 a.2 b.2 in
      rested e.report to.report e.report e.release (pos net.settings.max_rest) (elapsed e.report e.release sound.elapsed) rest.0 after)
