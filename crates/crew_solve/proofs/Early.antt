-- Departures that report before an instant, in order of report.
use Rattle.std.proofs.Common.{◌≡◌, ◌∙◌, ◌<◌, ◌≤◌, ◌≤ℤ◌, ◌&&◌, ◌+◌, ℕ, zero, suc, ℤ, Bool, true, false, List, refl, sym, ap, subst, arith, length, get_or, take}
use Rattle.std.specs.Prelude.{int_lt, slice_get}
use Rattle.std.specs.List.Sorted.{IsPartitionedBy}
use Rattle.std.specs.Ordering.{int_eq}
use Rattle.std.proofs.lemmas.Int.{ints}
use Rattle.crew_net.specs.Nets.{AreByReport, Net}
use Rattle.crew_pairing.specs.Events.{departure_of}
use Rattle.crew_pairing.specs.declared.duty.Duty.{Duty}
use Rattle.crew_pairing.specs.declared.events.Departure.{Departure}
use Rattle.crew_solve.proofs.Departing.{departs, get-by, place-within, there}
use Rattle.crew_solve.proofs.Shown.{place-none}
use Rattle.crew_solve.specs.Machinery.Early.{is_early}
use Rattle.crew_net.specs.Machinery.Numbered.{departure_place, is_departure}
use Rattle.crew_net.specs.Positions.{in_order}

-- the earlier ones stand before the others
sooner : (r s at : ℤ) → r ≤ℤ s → int_lt s at ≡ true → int_lt r at ≡ true
sooner r s at h t = grind (arith, ints)

pub early-parted : (gs : List Departure) (places : List ℕ) (at : ℤ) → AreByReport gs places → IsPartitionedBy (λ p. is_early at (slice_get gs p)) places
early-parted gs places at order i j d a b h =
    let low : i < length places = omega (arith, a, b) in
    let p = there places i low in
    let q = there places j b in
    let p-is = get-by places i 0 p.0 p.1 in
    let q-is = get-by places j 0 q.0 q.1 in
    let p-low = place-within gs places i order low in
    let q-low = place-within gs places j order b in
    let x = there gs p.0 (omega (arith, p-is, p-low)) in
    let y = there gs q.0 (omega (arith, q-is, q-low)) in
    let rises = order.rising i j p.0 q.0 x.0 y.0 a p.1 q.1 x.1 y.1 in
    let late : int_lt y.0.report at ≡ true = ap (is_early at) (sym y.1) ∙ (ap (λ n. is_early at (slice_get gs n)) (sym (get-by places j d q.0 q.1)) ∙ h) in
    ap (λ n. is_early at (slice_get gs n)) (get-by places i d p.0 p.1) ∙ (ap (is_early at) x.1 ∙ sooner x.0.report y.0.report at rises late)

-- none of them is a duty's that reports then
and-false : (p q : Bool) → q ≡ false → (p && q) ≡ false
and-false true q e = e
and-false false q e = refl

other-time : (a b : ℤ) → int_lt a b ≡ true → int_eq a b ≡ false
other-time a b h = grind (arith, ints)

pub early-none : (net : Net) (d : Duty) (n : ℕ) → AreByReport net.departures net.by_report → n ≤ length net.by_report → ((k : ℕ) → k < n → is_early d.report (slice_get net.departures (get_or net.by_report k 0)) ≡ true)
    → departure_place (take n (in_order net)) (departure_of d) ≡ n
early-none net d zero order w h = refl
early-none net d (suc n) order w h =
    let on : n + 1 ≡ suc n = omega arith in
    let g = departs net n order (omega (arith, w)) in
    let early : int_lt g.departure.report d.report ≡ true = ap (is_early d.report) (sym g.own) ∙ h n (omega arith) in
    let apart : is_departure g.departure (departure_of d) ≡ false = and-false _ _ (other-time g.departure.report d.report early) in
    let before = early-none net d n order (omega (arith, w)) (λ k l. h k (omega (arith, l))) in
    subst (λ m. departure_place (take m (in_order net)) (departure_of d) ≡ m) on (place-none (λ e. is_departure e (departure_of d)) (in_order net) n g.departure g.stands before apart)

-- the same, read of equal lists at an equal instant
pub early-as : (gs hs : List Departure) (ps qs : List ℕ) (a b : ℤ) (k : ℕ) → gs ≡ hs → ps ≡ qs → a ≡ b → is_early a (slice_get gs (get_or ps k 0)) ≡ true → is_early b (slice_get hs (get_or qs k 0)) ≡ true
early-as gs hs ps qs a b k e f g h = (λ i. is_early (sym g i) (slice_get (sym e i) (get_or (sym f i) k 0))) ∙ h
