-- Two fronts of a node have the same entries; where both rise by vector they are one list.
use Rattle.std.proofs.Common.{◌≡◌, ℕ, ℤ, List, [], ◌∷◌, Ordering}
use Rattle.std.specs.Cmp.{IsTotalOrder, int_cmp_total, on_total, then_total}
use Rattle.std.specs.Cmp.Lexicographic.{lists_total}
use Rattle.crew_flights.specs.Timetable.{Timetable}
use Rattle.crew_rules.specs.declared.settings.Settings.{Settings}
use Rattle.crew_resource.specs.Members.{Member}
use Rattle.crew_resource.proofs.Rising.{Rising, same-rising}
use Rattle.crew_pairing.specs.Keys.{walk_at_most}
use Rattle.crew_pairing.specs.Legs.{Leg}
use Rattle.crew_pairing.specs.declared.duty.Duty.{Duty}
use Rattle.crew_pairing.specs.declared.vector.PairingVector.{PairingVector}
use Rattle.crew_vector.specs.Fronts as Plain
use Rattle.crew_vector.proofs.Orders.{walk-order}
use Rattle.crew_vector.proofs.Unique.{same-entries}
use Rattle.crew_answers.specs.Dominance.{is_at_most}
use Rattle.crew_answers.specs.Fronts.{At, Clean, IsFrontAt, RiseByVector, vector_cmp}
use Rattle.crew_answers.specs.LongVectors.{LongVector}
use Rattle.crew_answers.proofs.Listed.{period-total}

sums-total : IsTotalOrder Plain.vector_cmp
sums-total =
    then_total (on_total (λ (v : PairingVector). v.duty_pay) int_cmp_total)
    (then_total (on_total (λ (v : PairingVector). v.trip_rig) int_cmp_total)
    (then_total (on_total (λ (v : PairingVector). v.guarantee) int_cmp_total)
    (then_total (on_total (λ (v : PairingVector). v.fdp) int_cmp_total)
    (then_total (on_total (λ (v : PairingVector). v.fly) int_cmp_total)
    (then_total (on_total (λ (v : PairingVector). v.duties) int_cmp_total)
    (on_total (λ (v : PairingVector). v.away) int_cmp_total))))))

pub vector-total : IsTotalOrder vector_cmp
vector-total =
    then_total (on_total (λ (v : LongVector). v.sums) sums-total)
    (then_total (on_total (λ (v : LongVector). v.since_rest) int_cmp_total)
    (on_total (λ (v : LongVector). v.history) (lists_total period-total)))

abbrev by_vector : LongVector × List (List Leg) → LongVector × List (List Leg) → Ordering
by_vector e f = vector_cmp e.0 f.0

rising : (es : List (LongVector × List (List Leg))) → RiseByVector es → Rising by_vector es
rising [] h = tt
rising (e ∷ es) h = (h.0, rising es h.1)

module _ (s : Settings) (t : Timetable) (base : List ℕ) (price : ℤ) (d : Duty) (es fs : List (LongVector × List (List Leg)))
    (f : IsFrontAt s t base price d es) (g : IsFrontAt s t base price d fs) where
  pub same-front : (v : LongVector) (w : List (List Leg)) → Member es (v, w) → Member fs (v, w)
  same-front = same-entries is_at_most walk_at_most (At s t base price d) (Clean s t base price d) walk-order es fs f g

  pub same-back : (v : LongVector) (w : List (List Leg)) → Member fs (v, w) → Member es (v, w)
  same-back = same-entries is_at_most walk_at_most (At s t base price d) (Clean s t base price d) walk-order fs es g f

  pub same-listed : RiseByVector es → RiseByVector fs → es ≡ fs
  same-listed h k =
      same-rising by_vector (on_total (λ (e : LongVector × List (List Leg)). e.0) vector-total) es fs (rising es h) (rising fs k)
      (λ e m. same-front e.0 e.1 m) (λ e m. same-back e.0 e.1 m)
