-- The laws of the vector as a resource, in steps and in stages.
use Rattle.std.specs.Prelude.{◌≡◌, ℕ, ◌+◌, ◌*◌, true, max, int_le, ℤ, pos, ◌+ℤ◌, ◌≤ℤ◌, neg_ℤ, unsigned_abs, Option, Some, None, FitsSigned, refl}
use Rattle.std.specs.Int.{w64}
use Rattle.std.specs.Option.{option_map}
use Rattle.std.proofs.Common.{sym, subst, arith}
use Rattle.std.proofs.lemmas.Int.{ints}
use Rattle.crew_pairing.specs.Events.{IsSound, MayFollow, arrival_of, departure_of}
use Rattle.crew_pairing.specs.declared.duty.Duty.{Duty}
use Rattle.crew_pairing.specs.declared.events.Arrival.{Arrival}
use Rattle.crew_pairing.specs.declared.events.Departure.{Departure}
use Rattle.crew_resource.specs.Machinery.Both.{both_board}
use Rattle.crew_resource.specs.Machinery.BothLaws.{both_grades, both_parts}
use Rattle.crew_resource.specs.Machinery.BothStages.{both_bounds}
use Rattle.crew_resource.specs.Machinery.Count.{count_bounds, count_grade, count_grades}
use Rattle.crew_resource.specs.Resource.{GradesOrder, StepLaws}
use Rattle.crew_resource.specs.Stages.{BoundLaws, CountingLaws, ShiftLaws, StagedLaws, boarded}
use Rattle.crew_resource.specs.Machinery.SumLaws.{no_grades}
use Rattle.crew_resource.specs.Machinery.SumStages.{capped_is, sum_arrived, sum_bounds, sum_ready}
use Rattle.crew_vector.specs.Machinery.Amounts.{away_laws, away_own, away_wait, fdp_laws, fly_laws, guarantee_laws, guarantee_own, pay_laws, pay_own, rig_laws, rig_own, rig_wait}
use Rattle.crew_vector.specs.Dominance.{is_at_most}
use Rattle.crew_vector.specs.Fronts.{vector_cmp}
use Rattle.crew_vector.specs.Machinery.Named.{named_bounds, named_shifts, named_staged, named_steps, unnamed}
use Rattle.crew_vector.specs.Machinery.Numbers.{Numbers, named, numbers_of}
use Rattle.crew_vector.specs.Machinery.Sides.{aboard, fits_in, idle, opened, stepped, summed, waited}
use Rattle.crew_vector.specs.Machinery.SidesLaws.{sides_at_most, sides_shifts, sides_staged, sides_steps}
use Rattle.crew_pairing.specs.declared.vector.PairingVector.{PairingVector}
use Rattle.crew_vector.specs.declared.resource.VectorResource.{VectorResource}

pub vector_steps : (r : VectorResource)
    → StepLaws (λ d. option_map named (opened r d))
    (λ v e d. option_map named (stepped r (numbers_of v) e d)) is_at_most
    (λ ds. option_map named (summed r ds))
vector_steps r = named_steps (opened r) (stepped r) (summed r) (sides_steps r)

abbrev grade : Numbers → ℕ
grade n = max (max 0 (max 0 0)) (max (max 0 0) (max (count_grade n.1.1.0) 0))

sides_grading : GradesOrder sides_at_most grade
sides_grading =
    both_grades _ _ _ _ (both_grades _ _ _ _ (no_grades int_le)
    (both_grades _ _ _ _ (no_grades int_le) (no_grades int_le)))
    (both_grades _ _ _ _ (both_grades _ _ _ _ (no_grades int_le) (no_grades int_le))
    (both_grades _ _ _ _ count_grades (no_grades int_le)))

pub vector_grading : GradesOrder is_at_most (λ v. grade (numbers_of v))
vector_grading a b h = sides_grading (numbers_of a) (numbers_of b) h

pub vector_staged : (r : VectorResource)
    → StagedLaws (λ d. option_map named (opened r d))
    (λ v e d. option_map named (stepped r (numbers_of v) e d)) is_at_most arrival_of
    departure_of (λ g. named (idle r g)) (λ v x g. named (waited r (numbers_of v) x g))
    (λ v d. option_map named (aboard r (numbers_of v) d))
vector_staged r = named_staged (opened r) (stepped r) arrival_of departure_of (idle r) (waited r)
    (aboard r) (sides_staged r)

pub vector_shifts : (r : VectorResource)
    → ShiftLaws vector_cmp is_at_most (λ v x g. named (waited r (numbers_of v) x g))
    (λ v d. option_map named (aboard r (numbers_of v) d))
vector_shifts r = named_shifts (waited r) (aboard r) (sides_shifts r)

abbrev board_money : VectorResource → ℤ × (ℤ × ℤ) → Duty → Option (ℤ × (ℤ × ℤ))
board_money r = both_board (boarded None pay_own)
    (both_board (boarded None (rig_own r.trip_rig)) (boarded None (guarantee_own r.guarantee)))

abbrev board_minutes : VectorResource → ℤ × ℤ → Duty → Option (ℤ × ℤ)
board_minutes r = both_board (boarded (Some (pos r.fdp_cap)) (λ d. d.fdp))
    (boarded (Some (pos r.fly_cap)) (λ d. d.fly))

abbrev board_span : VectorResource → ℤ × ℤ → Duty → Option (ℤ × ℤ)
board_span r = both_board (boarded (Some (pos r.max_duties)) (λ _. pos 1))
    (boarded (Some (pos r.away_cap)) away_own)

-- boarding counts one duty more, up to the most
one_boarded : (r : VectorResource) (v z : PairingVector) (d : Duty)
    → option_map named (aboard r (numbers_of v) d) ≡ Some z
    → (int_le (v.duties +ℤ pos 1) (pos r.max_duties) ≡ true) × (v.duties +ℤ pos 1 ≡ z.duties)
one_boarded r v z d e =
    let n = numbers_of v in
    let m = numbers_of z in
    let a = both_parts (board_money r n.0 d) (both_board (board_minutes r) (board_span r) n.1 d) m
    (unnamed (aboard r n d) z e) in
    let b = both_parts (board_minutes r n.1.0 d) (board_span r n.1.1 d) m.1 a.1 in
    let c = both_parts (boarded (Some (pos r.max_duties)) (λ (_ : Duty). pos 1) v.duties d)
    (boarded (Some (pos r.away_cap)) away_own v.away d) m.1.1 b.1
    in
    capped_is (Some (pos r.max_duties)) (v.duties +ℤ pos 1) z.duties c.0

test_le : (a b : ℤ) → int_le a b ≡ true → a ≤ℤ b
test_le a b h = grind (arith, ints)

counting : (r : VectorResource)
    → CountingLaws (λ (v : PairingVector). v.duties) r.max_duties (λ g. named (idle r g))
    (λ v x g. named (waited r (numbers_of v) x g))
    (λ v d. option_map named (aboard r (numbers_of v) d))
counting r = record {
  none_yet = λ g. refl;
  none_more = λ v x g. omega (arith, ints);
  one_more = λ v z i e. sym (one_boarded r v z i e).1;
  ends = λ v z i e. let k = one_boarded r v z i e in subst (λ n. n ≤ℤ pos r.max_duties) k.1
      (test_le (v.duties +ℤ pos 1) (pos r.max_duties) k.0);
}

pub vector_counting : (r : VectorResource) (m : ℕ)
    → ◌≡◌ {A = Option ℕ} (Some r.max_duties) (Some m)
    → CountingLaws (λ (v : PairingVector). v.duties) m (λ g. named (idle r g))
    (λ v x g. named (waited r (numbers_of v) x g))
    (λ v d. option_map named (aboard r (numbers_of v) d))
vector_counting r m e =
    let same : r.max_duties ≡ m = (cc) in
    subst (λ k. CountingLaws (λ (v : PairingVector). v.duties) k (λ g. named (idle r g))
    (λ v x g. named (waited r (numbers_of v) x g))
    (λ v d. option_map named (aboard r (numbers_of v) d))) same (counting r)

-- a call's sums fit: of a part at the first duty, and at a next one
abbrev Begins : Duty → ℤ → Type 0
Begins d sum = Unit {0} × (IsSound d × FitsSigned w64 sum)

abbrev GoesOn : Duty → Duty → ℤ → ℤ → Type 0
GoesOn e d waited own = (MayFollow (arrival_of e) (departure_of d) × FitsSigned w64 waited)
    × (IsSound d × FitsSigned w64 (waited +ℤ own))

abbrev can_start : VectorResource → Duty → Type 0
can_start r d =
    (Begins d (neg_ℤ r.base_price +ℤ pay_own d)
    × (Begins d (neg_ℤ r.base_price +ℤ rig_own r.trip_rig d)
    × Begins d (neg_ℤ r.base_price +ℤ guarantee_own r.guarantee d)))
    × ((Begins d (pos 0 +ℤ d.fdp) × Begins d (pos 0 +ℤ d.fly))
    × (Unit {0} × Begins d (pos 0 +ℤ away_own d)))

abbrev can_extend : VectorResource → Numbers → Duty → Duty → Type 0
can_extend r n e d =
    (GoesOn e d (n.0.0 +ℤ pos 0) (pay_own d)
    × (GoesOn e d (n.0.1.0 +ℤ rig_wait r.trip_rig (arrival_of e) (departure_of d))
    (rig_own r.trip_rig d) × GoesOn e d (n.0.1.1 +ℤ pos 0) (guarantee_own r.guarantee d)))
    × ((GoesOn e d (n.1.0.0 +ℤ pos 0) d.fdp × GoesOn e d (n.1.0.1 +ℤ pos 0) d.fly)
    × (FitsSigned w64 (n.1.1.0 +ℤ pos 1)
    × GoesOn e d (n.1.1.1 +ℤ away_wait (arrival_of e) (departure_of d)) (away_own d)))

abbrev can_idle : Departure → Type 0
can_idle g = (Unit {0} × (Unit {0} × Unit {0})) × ((Unit {0} × Unit {0}) × (Unit {0} × Unit {0}))

abbrev pub can_wait : VectorResource → Numbers → Arrival → Departure → Type 0
can_wait r n x g =
    ((MayFollow x g × FitsSigned w64 (n.0.0 +ℤ pos 0))
    × ((MayFollow x g × FitsSigned w64 (n.0.1.0 +ℤ rig_wait r.trip_rig x g))
    × (MayFollow x g × FitsSigned w64 (n.0.1.1 +ℤ pos 0))))
    × (((MayFollow x g × FitsSigned w64 (n.1.0.0 +ℤ pos 0))
    × (MayFollow x g × FitsSigned w64 (n.1.0.1 +ℤ pos 0)))
    × (MayFollow x g
    × (MayFollow x g × FitsSigned w64 (n.1.1.1 +ℤ away_wait x g))))

abbrev pub can_board : VectorResource → Numbers → Duty → Type 0
can_board r n d =
    ((IsSound d × FitsSigned w64 (n.0.0 +ℤ pay_own d))
    × ((IsSound d × FitsSigned w64 (n.0.1.0 +ℤ rig_own r.trip_rig d))
    × (IsSound d × FitsSigned w64 (n.0.1.1 +ℤ guarantee_own r.guarantee d))))
    × (((IsSound d × FitsSigned w64 (n.1.0.0 +ℤ d.fdp))
    × (IsSound d × FitsSigned w64 (n.1.0.1 +ℤ d.fly)))
    × ((IsSound d × FitsSigned w64 (n.1.1.0 +ℤ pos 1))
    × (IsSound d × FitsSigned w64 (n.1.1.1 +ℤ away_own d))))

abbrev ready : VectorResource → ℕ → Numbers → Type 0
ready r n v =
    (sum_ready (unsigned_abs r.base_price + 8_000_020_000) n v.0.0
    × (sum_ready (r.trip_rig * 10_000 + unsigned_abs r.base_price + 8_000_000_000) n v.0.1.0
    × sum_ready (r.guarantee + unsigned_abs r.base_price + 8_000_000_000) n v.0.1.1))
    × ((sum_ready 840 n v.1.0.0 × sum_ready 540 n v.1.0.1)
    × (sum_ready 1 n v.1.1.0 × sum_ready 8_280 n v.1.1.1))

abbrev arrived : VectorResource → ℕ → Numbers → Type 0
arrived r n v =
    (sum_arrived (unsigned_abs r.base_price + 8_000_020_000) n v.0.0
    × (sum_arrived (r.trip_rig * 10_000 + unsigned_abs r.base_price + 8_000_000_000) n v.0.1.0
    × sum_arrived (r.guarantee + unsigned_abs r.base_price + 8_000_000_000) n v.0.1.1))
    × ((sum_arrived 840 n v.1.0.0 × sum_arrived 540 n v.1.0.1)
    × (sum_arrived 1 n v.1.1.0 × sum_arrived 8_280 n v.1.1.1))

sides_bounds : (r : VectorResource)
    → BoundLaws IsSound (λ _. Unit {0}) MayFollow arrival_of departure_of (idle r) (waited r)
    (aboard r) (can_start r) (can_extend r) can_idle (can_wait r) (can_board r) (fits_in r)
    (ready r) (arrived r)
sides_bounds r =
    both_bounds _ _ _ _ _ _ _ _ _ _ _ _ _ _ _ _ _ _ _ _ _ _ _ _ _ _ _
    (both_bounds _ _ _ _ _ _ _ _ _ _ _ _ _ _ _ _ _ _ _ _ _ _ _ _ _ _ _
    (sum_bounds IsSound (λ _. Unit {0}) MayFollow arrival_of departure_of None
    (λ _. neg_ℤ r.base_price) (λ _ _. pos 0) pay_own
    (unsigned_abs r.base_price + 8_000_020_000) (pay_laws r.base_price))
    (both_bounds _ _ _ _ _ _ _ _ _ _ _ _ _ _ _ _ _ _ _ _ _ _ _ _ _ _ _
    (sum_bounds IsSound (λ _. Unit {0}) MayFollow arrival_of departure_of None
    (λ _. neg_ℤ r.base_price) (rig_wait r.trip_rig) (rig_own r.trip_rig)
    (r.trip_rig * 10_000 + unsigned_abs r.base_price + 8_000_000_000)
    (rig_laws r.trip_rig r.base_price))
    (sum_bounds IsSound (λ _. Unit {0}) MayFollow arrival_of departure_of None
    (λ _. neg_ℤ r.base_price) (λ _ _. pos 0) (guarantee_own r.guarantee)
    (r.guarantee + unsigned_abs r.base_price + 8_000_000_000)
    (guarantee_laws r.guarantee r.base_price))))
    (both_bounds _ _ _ _ _ _ _ _ _ _ _ _ _ _ _ _ _ _ _ _ _ _ _ _ _ _ _
    (both_bounds _ _ _ _ _ _ _ _ _ _ _ _ _ _ _ _ _ _ _ _ _ _ _ _ _ _ _
    (sum_bounds IsSound (λ _. Unit {0}) MayFollow arrival_of departure_of
    (Some (pos r.fdp_cap)) (λ _. pos 0) (λ _ _. pos 0) (λ d. d.fdp) 840 fdp_laws)
    (sum_bounds IsSound (λ _. Unit {0}) MayFollow arrival_of departure_of
    (Some (pos r.fly_cap)) (λ _. pos 0) (λ _ _. pos 0) (λ d. d.fly) 540 fly_laws))
    (both_bounds _ _ _ _ _ _ _ _ _ _ _ _ _ _ _ _ _ _ _ _ _ _ _ _ _ _ _
    (count_bounds r.max_duties IsSound (λ _. Unit {0}) MayFollow arrival_of departure_of)
    (sum_bounds IsSound (λ _. Unit {0}) MayFollow arrival_of departure_of
    (Some (pos r.away_cap)) (λ _. pos 0) away_wait away_own 8_280 away_laws)))

pub vector_bounds : (r : VectorResource)
    → BoundLaws IsSound (λ _. Unit {0}) MayFollow arrival_of departure_of (λ g. named (idle r g))
    (λ v x g. named (waited r (numbers_of v) x g))
    (λ v d. option_map named (aboard r (numbers_of v) d))
    (can_start r) (λ v. can_extend r (numbers_of v)) can_idle (λ v. can_wait r (numbers_of v))
    (λ v. can_board r (numbers_of v)) (fits_in r) (λ n v. ready r n (numbers_of v))
    (λ n v. arrived r n (numbers_of v))
vector_bounds r =
    named_bounds IsSound (λ _. Unit {0}) MayFollow arrival_of departure_of (idle r) (waited r)
    (aboard r) (can_start r) (can_extend r) can_idle (can_wait r) (can_board r) (fits_in r)
    (ready r) (arrived r) (sides_bounds r)
