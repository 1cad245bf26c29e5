-- Two fronts of a node have the same entries; where both rise by vector they are one list.
use Rattle.std.proofs.Common.{◌≡◌, ℕ, ℤ, List, [], ◌∷◌, Ordering, subst}
use Rattle.std.specs.Cmp.{IsTotalOrder, int_cmp_total, on_total, then_total}
use Rattle.crew_resource.specs.Members.{Member}
use Rattle.crew_pairing.specs.declared.duty.Duty.{Duty}
use Rattle.crew_pairing.specs.Legs.{Leg}
use Rattle.crew_flights.specs.Timetable.{Timetable}
use Rattle.crew_resource.specs.Labels.{IsFront}
use Rattle.crew_resource.proofs.Order.{IsOrder}
use Rattle.crew_resource.proofs.Rising.{Rising, same-rising}
use Rattle.crew_rules.specs.declared.settings.Settings.{Settings}
use Rattle.crew_vector.specs.Dominance.{is_at_most}
use Rattle.crew_vector.specs.Fronts.{At, Clean, IsFrontAt, RiseByVector, vector_cmp}
use Rattle.crew_pairing.specs.Keys.{walk_at_most}
use Rattle.crew_pairing.specs.declared.vector.PairingVector.{PairingVector}
use Rattle.crew_vector.proofs.Orders.{walk-order}

pub same-entries : {V W : Type 0} (le : V → V → _) (wle : W → W → _) (At Clean : V → W → Type 0) → IsOrder wle → (es fs : List (V × W)) → IsFront le wle At Clean es → IsFront le wle At Clean fs
    → (v : V) (w : W) → Member es (v, w) → Member fs (v, w)
same-entries le wle At Clean walks es fs f g v w m =
    let e = g.every v (f.undominated v w m) in
    let same : e.0 ≡ w = walks.antisymmetric e.0 w (g.least v e.0 w e.1 (f.clean v w m)) (f.least v w e.0 m (g.clean v e.0 e.1)) in
    subst (λ z. Member fs (v, z)) same e.1

vector-total : IsTotalOrder vector_cmp
vector-total =
    then_total (on_total (λ (v : PairingVector). v.duty_pay) int_cmp_total)
    (then_total (on_total (λ (v : PairingVector). v.trip_rig) int_cmp_total)
    (then_total (on_total (λ (v : PairingVector). v.guarantee) int_cmp_total)
    (then_total (on_total (λ (v : PairingVector). v.fdp) int_cmp_total)
    (then_total (on_total (λ (v : PairingVector). v.fly) int_cmp_total)
    (then_total (on_total (λ (v : PairingVector). v.duties) int_cmp_total)
    (on_total (λ (v : PairingVector). v.away) int_cmp_total))))))

abbrev by_vector : PairingVector × List (List Leg) → PairingVector × List (List Leg) → Ordering
by_vector e f = vector_cmp e.0 f.0

rising : (es : List (PairingVector × List (List Leg))) → RiseByVector es → Rising by_vector es
rising [] h = tt
rising (e ∷ es) h = (h.0, rising es h.1)

pub same-front : (s : Settings) (t : Timetable) (base : List ℕ) (price : ℤ) (d : Duty) (es fs : List (PairingVector × List (List Leg))) → IsFrontAt s t base price d es → IsFrontAt s t base price d fs
    → (v : PairingVector) (w : List (List Leg)) → Member es (v, w) → Member fs (v, w)
same-front s t base price d = same-entries is_at_most walk_at_most (At s t base price d) (Clean s t base price d) walk-order

pub same-listed : (s : Settings) (t : Timetable) (base : List ℕ) (price : ℤ) (d : Duty) (es fs : List (PairingVector × List (List Leg))) → IsFrontAt s t base price d es → IsFrontAt s t base price d fs
    → RiseByVector es → RiseByVector fs → es ≡ fs
same-listed s t base price d es fs f g h k =
    same-rising by_vector (on_total (λ (e : PairingVector × List (List Leg)). e.0) vector-total) es fs (rising es h) (rising fs k)
    (λ e m. same-front s t base price d es fs f g e.0 e.1 m) (λ e m. same-front s t base price d fs es g f e.0 e.1 m)
