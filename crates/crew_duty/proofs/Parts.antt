-- What stands at the places of a list, and what it gives.
use Rattle.std.proofs.Common.{◌≡◌, ◌<◌, ◌+◌, ℕ, zero, suc, List, [], ◌∷◌, ◌++◌, Some, append-nil, drop, length, refl, subst, take, arith}
use Rattle.std.specs.Prelude.{slice_get}
use Rattle.std.specs.List.{flat_map, range_with_len}
use Rattle.crew_flights.specs.declared.flight.Flight.{Flight}
use Rattle.crew_pairing.specs.declared.duty.Duty.{Duty}

-- below the length something stands
pub there : (fs : List Flight) (i : ℕ) → i < length fs → (f : Flight) × (slice_get fs i ≡ Some f)
there [] i h = absurd (omega arith)
there (f ∷ fs) zero h = (f, refl)
there (f ∷ fs) (suc i) h = there fs i (omega arith)

-- what stands at a place, and what the places of a list give
pub place-gives : (F : Flight → List Duty) (all : List Flight) (i : ℕ) (f : Flight) → slice_get all i ≡ Some f → flat_map F (take 1 (drop i all)) ≡ F f
place-gives F [] i f e = cc
place-gives F (g ∷ all) zero f e = let same : g ≡ f = cc in rw same (append-nil (F f))
place-gives F (g ∷ all) (suc i) f e = place-gives F all i f e

pub all-places : (F : Flight → List Duty) (all fs : List Flight) (i : ℕ) → ((k : ℕ) (g : Flight) → slice_get fs k ≡ Some g → slice_get all (i + k) ≡ Some g)
    → flat_map (λ place. flat_map F (take 1 (drop place all))) (range_with_len i (length fs)) ≡ flat_map F fs
all-places F all [] i at = refl
all-places F all (f ∷ fs) i at =
    let here : slice_get all i ≡ Some f = subst (λ (k : ℕ). slice_get all k ≡ Some f) (omega arith) (at 0 f refl) in
    let one = place-gives F all i f here in
    let rest = all-places F all fs (i + 1) (λ k g e. subst (λ (n : ℕ). slice_get all n ≡ Some g) (omega arith) (at (suc k) g e)) in
    λ j. one j ++ rest j
