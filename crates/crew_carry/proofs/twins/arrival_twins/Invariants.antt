use Rattle.std.proofs.Common.{◌≡◌, ◌<◌, ℕ, Some, length}
use Rattle.std.specs.Prelude.{slice_get}
use Rattle.crew_carry.specs.Twins.{HaveSameArriving, IsInOrder}
use Rattle.crew_pairing.specs.declared.events.Arrival.{Arrival}
use Rattle.crew_carry.proofs.twins.arrival_twins.Given as goal

abbrev pub invariant-loop-place : goal.invariant-loop-place
invariant-loop-place l =
    (length l.twins.items ≡ l.place)
    × ((p q : ℕ) → slice_get l.twins.items p ≡ Some (Some q) → (x : Arrival) × (slice_get l.old.arrivals q ≡ Some x) × (slice_get l.new.arrivals p ≡ Some x) × HaveSameArriving l.old l.new x)
    × (IsInOrder l.old → IsInOrder l.new → (p q : ℕ) (x : Arrival) → p < l.place → slice_get l.old.arrivals q ≡ Some x → slice_get l.new.arrivals p ≡ Some x → HaveSameArriving l.old l.new x → slice_get l.twins.items p ≡ Some (Some q))
