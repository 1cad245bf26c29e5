-- Arrivals rise, so each stands once.
use Rattle.std.proofs.Common.{◌≡◌, ℕ, Some, sym, ◌∙◌, ap}
use Rattle.std.specs.Prelude.{slice_get}
use Rattle.std.specs.Cmp.{IsTotalOrder, int_cmp_total, on_total, then_total}
use Rattle.std.specs.Ordering.{ordering_reverse}
use Rattle.std.specs.declared.cmp.Ordering.TheVariants.{Less}
use Rattle.crew_flights.specs.Codes.{code_cmp_total}
use Rattle.crew_net.specs.Events.{AreEvents, arrival_cmp}
use Rattle.crew_net.specs.Nets.{Net}
use Rattle.crew_pairing.specs.Events.{arrival_of}
use Rattle.crew_pairing.specs.declared.events.Arrival.{Arrival}
use Rattle.crew_dirty.proofs.Aligned.{one-place}

arrival-total : IsTotalOrder arrival_cmp
arrival-total = then_total (on_total (λ x. x.airport) code_cmp_total) (on_total (λ x. x.release) int_cmp_total)

pub arrivals-not-both : (x y : Arrival) → arrival_cmp x y ≡ Less → arrival_cmp y x ≡ Less → ⊥
arrivals-not-both x y h k = let e : Less ≡ ordering_reverse Less = sym h ∙ (arrival-total.antisymm x y ∙ ap ordering_reverse k) in (cc)

pub arrival-place : (net : Net) → AreEvents arrival_of arrival_cmp net.duties net.arrivals → (i j : ℕ) (x : Arrival) → slice_get net.arrivals i ≡ Some x → slice_get net.arrivals j ≡ Some x → i ≡ j
arrival-place net events = one-place arrival_cmp arrivals-not-both net.arrivals events.rising
