-- What the parts side by side give: of each stage, of a first duty, of a step, and of a list.
use Rattle.std.specs.Prelude.{ℕ, ◌+◌, ◌*◌, ℤ, pos, ◌+ℤ◌, neg_ℤ, unsigned_abs, List, Option, Some, None}
use Rattle.crew_pairing.specs.Events.{arrival_of, departure_of}
use Rattle.crew_pairing.specs.declared.duty.Duty.{Duty}
use Rattle.crew_pairing.specs.declared.events.Arrival.{Arrival}
use Rattle.crew_pairing.specs.declared.events.Departure.{Departure}
use Rattle.crew_resource.specs.Machinery.Both.{both, both_board, both_extend, both_wait}
use Rattle.crew_resource.specs.Stages.{boarded, shifted}
use Rattle.crew_resource.specs.Machinery.Sum.{capped, capped_sum, first_adds, next_adds}
use Rattle.crew_resource.specs.Machinery.SumStages.{sum_fits}
use Rattle.crew_vector.specs.Machinery.Amounts.{away_own, away_wait, guarantee_own, pay_own, rig_own, rig_wait}
use Rattle.crew_vector.specs.Machinery.Numbers.{Numbers}
use Rattle.crew_vector.specs.declared.resource.VectorResource.{VectorResource}

abbrev pub idle : VectorResource → Departure → Numbers
idle r g = (
  (neg_ℤ r.base_price, (neg_ℤ r.base_price, neg_ℤ r.base_price)),
  ((pos 0, pos 0), (pos 0, pos 0)),
)

abbrev pub waited : VectorResource → Numbers → Arrival → Departure → Numbers
waited r =
    both_wait
    (both_wait (shifted (λ _ _. pos 0))
    (both_wait (shifted (rig_wait r.trip_rig)) (shifted (λ _ _. pos 0))))
    (both_wait (both_wait (shifted (λ _ _. pos 0)) (shifted (λ _ _. pos 0)))
    (both_wait (shifted (λ _ _. pos 0)) (shifted away_wait)))

abbrev pub aboard : VectorResource → Numbers → Duty → Option Numbers
aboard r =
    both_board
    (both_board (boarded None pay_own)
    (both_board (boarded None (rig_own r.trip_rig)) (boarded None (guarantee_own r.guarantee))))
    (both_board
    (both_board (boarded (Some (pos r.fdp_cap)) (λ d. d.fdp))
    (boarded (Some (pos r.fly_cap)) (λ d. d.fly)))
    (both_board (boarded (Some (pos r.max_duties)) (λ _. pos 1))
    (boarded (Some (pos r.away_cap)) away_own)))

abbrev pub opened : VectorResource → Duty → Option Numbers
opened r d = aboard r (idle r (departure_of d)) d

-- a part one duty on
abbrev on : Option ℤ → (Arrival → Departure → ℤ) → (Duty → ℤ) → ℤ → Duty → Duty → Option ℤ
on cap wait own v e d = capped cap (v +ℤ next_adds arrival_of departure_of wait own e d)

abbrev pub stepped : VectorResource → Numbers → Duty → Duty → Option Numbers
stepped r =
    both_extend
    (both_extend (on None (λ _ _. pos 0) pay_own)
    (both_extend (on None (rig_wait r.trip_rig) (rig_own r.trip_rig))
    (on None (λ _ _. pos 0) (guarantee_own r.guarantee))))
    (both_extend
    (both_extend (on (Some (pos r.fdp_cap)) (λ _ _. pos 0) (λ d. d.fdp))
    (on (Some (pos r.fly_cap)) (λ _ _. pos 0) (λ d. d.fly)))
    (both_extend (λ v _ _. capped (Some (pos r.max_duties)) (v +ℤ pos 1))
    (on (Some (pos r.away_cap)) away_wait away_own)))

-- a part along a list
abbrev along : Option ℤ → (Departure → ℤ) → (Arrival → Departure → ℤ) → (Duty → ℤ) → List Duty
    → Option ℤ
along cap idle wait own = capped_sum (first_adds departure_of idle own)
    (next_adds arrival_of departure_of wait own) cap

abbrev pub summed : VectorResource → List Duty → Option Numbers
summed r ds =
    both
    (both (along None (λ _. neg_ℤ r.base_price) (λ _ _. pos 0) pay_own ds)
    (both
    (along None (λ _. neg_ℤ r.base_price) (rig_wait r.trip_rig) (rig_own r.trip_rig) ds)
    (along None (λ _. neg_ℤ r.base_price) (λ _ _. pos 0) (guarantee_own r.guarantee) ds)))
    (both
    (both (along (Some (pos r.fdp_cap)) (λ _. pos 0) (λ _ _. pos 0) (λ d. d.fdp) ds)
    (along (Some (pos r.fly_cap)) (λ _. pos 0) (λ _ _. pos 0) (λ d. d.fly) ds))
    (both (capped_sum (λ _. pos 1) (λ _ _. pos 1) (Some (pos r.max_duties)) ds)
    (along (Some (pos r.away_cap)) (λ _. pos 0) away_wait away_own ds)))

-- sums over so many duties fit
abbrev pub fits_in : VectorResource → ℕ → Type 0
fits_in r n =
    (sum_fits (unsigned_abs r.base_price + 8_000_020_000) n
    × (sum_fits (r.trip_rig * 10_000 + unsigned_abs r.base_price + 8_000_000_000) n
    × sum_fits (r.guarantee + unsigned_abs r.base_price + 8_000_000_000) n))
    × ((sum_fits 840 n × sum_fits 540 n) × (sum_fits 1 n × sum_fits 8_280 n))
