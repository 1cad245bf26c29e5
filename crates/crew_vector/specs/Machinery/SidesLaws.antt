-- The laws of the parts side by side.
use Rattle.std.specs.Prelude.{Bool, ◌&&◌, int_le, ℤ, pos, ◌+ℤ◌, neg_ℤ, Option, Some, None}
use Rattle.std.specs.Ordering.{int_cmp, ordering_then}
use Rattle.std.specs.declared.cmp.Ordering.{Ordering}
use Rattle.crew_pairing.specs.Events.{arrival_of, departure_of}
use Rattle.crew_pairing.specs.declared.duty.Duty.{Duty}
use Rattle.crew_pairing.specs.declared.events.Arrival.{Arrival}
use Rattle.crew_pairing.specs.declared.events.Departure.{Departure}
use Rattle.crew_resource.specs.Machinery.BothLaws.{both_order, both_steps}
use Rattle.crew_resource.specs.Machinery.BothStages.{both_shifts, both_staged}
use Rattle.crew_resource.specs.Machinery.Count.{count_staged}
use Rattle.crew_resource.specs.Resource.{OrderLaws, StepLaws}
use Rattle.crew_resource.specs.Stages.{ShiftLaws, StagedLaws}
use Rattle.crew_resource.specs.Machinery.Sum.{capped, capped_sum, first_adds, next_adds}
use Rattle.crew_resource.specs.Machinery.SumLaws.{sum_order, sum_steps}
use Rattle.crew_resource.specs.Machinery.SumStages.{sum_shifts, sum_staged}
use Rattle.crew_vector.specs.Machinery.Amounts.{away_own, away_wait, guarantee_own, pay_own, rig_own, rig_wait}
use Rattle.crew_vector.specs.Machinery.Numbers.{Numbers}
use Rattle.crew_vector.specs.Machinery.Sides.{aboard, idle, opened, stepped, summed, waited}
use Rattle.crew_vector.specs.declared.resource.VectorResource.{VectorResource}

abbrev pub sides_at_most : Numbers → Numbers → Bool
sides_at_most a b =
    (int_le a.0.0 b.0.0 && (int_le a.0.1.0 b.0.1.0 && int_le a.0.1.1 b.0.1.1))
    && ((int_le a.1.0.0 b.1.0.0 && int_le a.1.0.1 b.1.0.1) &&
    (int_le a.1.1.0 b.1.1.0 && int_le a.1.1.1 b.1.1.1))

abbrev pub sides_cmp : Numbers → Numbers → Ordering
sides_cmp a b =
    ordering_then (ordering_then (int_cmp a.0.0 b.0.0)
    (ordering_then (int_cmp a.0.1.0 b.0.1.0) (int_cmp a.0.1.1 b.0.1.1)))
    (ordering_then (ordering_then (int_cmp a.1.0.0 b.1.0.0) (int_cmp a.1.0.1 b.1.0.1))
    (ordering_then (int_cmp a.1.1.0 b.1.1.0) (int_cmp a.1.1.1 b.1.1.1)))

pub sides_order : OrderLaws sides_cmp sides_at_most
sides_order = both_order _ _ _ _
    (both_order _ _ _ _ sum_order (both_order _ _ _ _ sum_order sum_order))
    (both_order _ _ _ _ (both_order _ _ _ _ sum_order sum_order)
    (both_order _ _ _ _ sum_order sum_order))

-- the steps of a part that is added in stages
part_steps : (cap : Option ℤ) (idle : Departure → ℤ) (wait : Arrival → Departure → ℤ)
    (own : Duty → ℤ)
    → StepLaws (λ d. capped cap (first_adds departure_of idle own d))
    (λ v e d. capped cap (v +ℤ next_adds arrival_of departure_of wait own e d)) int_le
    (capped_sum (first_adds departure_of idle own) (next_adds arrival_of departure_of wait own)
    cap)
part_steps cap idle wait own = sum_steps (first_adds departure_of idle own)
    (next_adds arrival_of departure_of wait own) cap

pub sides_steps : (r : VectorResource) → StepLaws (opened r) (stepped r) sides_at_most (summed r)
sides_steps r =
    both_steps _ _ _ _ _ _ _ _
    (both_steps _ _ _ _ _ _ _ _ (part_steps None (λ _. neg_ℤ r.base_price) (λ _ _. pos 0) pay_own)
    (both_steps _ _ _ _ _ _ _ _
    (part_steps None (λ _. neg_ℤ r.base_price) (rig_wait r.trip_rig) (rig_own r.trip_rig))
    (part_steps None (λ _. neg_ℤ r.base_price) (λ _ _. pos 0) (guarantee_own r.guarantee))))
    (both_steps _ _ _ _ _ _ _ _
    (both_steps _ _ _ _ _ _ _ _
    (part_steps (Some (pos r.fdp_cap)) (λ _. pos 0) (λ _ _. pos 0) (λ d. d.fdp))
    (part_steps (Some (pos r.fly_cap)) (λ _. pos 0) (λ _ _. pos 0) (λ d. d.fly)))
    (both_steps _ _ _ _ _ _ _ _ (sum_steps (λ _. pos 1) (λ _ _. pos 1) (Some (pos r.max_duties)))
    (part_steps (Some (pos r.away_cap)) (λ _. pos 0) away_wait away_own)))

pub sides_staged : (r : VectorResource)
    → StagedLaws (opened r) (stepped r) sides_at_most arrival_of departure_of (idle r) (waited r)
    (aboard r)
sides_staged r =
    both_staged _ _ _ _ _ _ _ _ _ _ _ _ _ _
    (both_staged _ _ _ _ _ _ _ _ _ _ _ _ _ _
    (sum_staged None arrival_of departure_of (λ _. neg_ℤ r.base_price) (λ _ _. pos 0) pay_own)
    (both_staged _ _ _ _ _ _ _ _ _ _ _ _ _ _
    (sum_staged None arrival_of departure_of (λ _. neg_ℤ r.base_price) (rig_wait r.trip_rig)
    (rig_own r.trip_rig))
    (sum_staged None arrival_of departure_of (λ _. neg_ℤ r.base_price) (λ _ _. pos 0)
    (guarantee_own r.guarantee))))
    (both_staged _ _ _ _ _ _ _ _ _ _ _ _ _ _
    (both_staged _ _ _ _ _ _ _ _ _ _ _ _ _ _
    (sum_staged (Some (pos r.fdp_cap)) arrival_of departure_of (λ _. pos 0) (λ _ _. pos 0)
    (λ d. d.fdp))
    (sum_staged (Some (pos r.fly_cap)) arrival_of departure_of (λ _. pos 0) (λ _ _. pos 0)
    (λ d. d.fly)))
    (both_staged _ _ _ _ _ _ _ _ _ _ _ _ _ _
    (count_staged r.max_duties arrival_of departure_of)
    (sum_staged (Some (pos r.away_cap)) arrival_of departure_of (λ _. pos 0) away_wait away_own)))

pub sides_shifts : (r : VectorResource) → ShiftLaws sides_cmp sides_at_most (waited r) (aboard r)
sides_shifts r =
    both_shifts _ _ _ _ _ _ _ _
    (both_shifts _ _ _ _ _ _ _ _ (sum_shifts {X = Arrival} {G = Departure} (λ _ _. pos 0) pay_own
    None)
    (both_shifts _ _ _ _ _ _ _ _ (sum_shifts {X = Arrival} {G = Departure} (rig_wait r.trip_rig)
    (rig_own r.trip_rig) None) (sum_shifts {X = Arrival} {G = Departure} (λ _ _. pos 0)
    (guarantee_own r.guarantee) None)))
    (both_shifts _ _ _ _ _ _ _ _
    (both_shifts _ _ _ _ _ _ _ _ (sum_shifts {X = Arrival} {G = Departure} (λ _ _. pos 0)
    (λ (d : Duty). d.fdp) (Some (pos r.fdp_cap)))
    (sum_shifts {X = Arrival} {G = Departure} (λ _ _. pos 0) (λ (d : Duty). d.fly)
    (Some (pos r.fly_cap))))
    (both_shifts _ _ _ _ _ _ _ _ (sum_shifts {X = Arrival} {G = Departure} (λ _ _. pos 0)
    (λ (_ : Duty). pos 1) (Some (pos r.max_duties)))
    (sum_shifts {X = Arrival} {G = Departure} away_wait away_own (Some (pos r.away_cap)))))
